use Rattle.std.proofs.Common.{sym, ◌∙◌}
use Rattle.task_code_values.proofs.Parked.{parked-made}
use Rattle.task_code_values.proofs.stores.emit_parked.Goals as goal

pub returns-clause-ok : goal.returns-clause-ok
returns-clause-ok c =
    parked-made c.args.site.now.places.now c.args.site.now.scope.now (sym c.are_registers.ensures ∙ c.if-not-are_registers.false) c.args.store.now
    c.in_ok-at.at.register c.in_ok-at.at.offset _ _ _ c.in_ok-at.ensures.ok c.in_ok-emit_save.ensures
