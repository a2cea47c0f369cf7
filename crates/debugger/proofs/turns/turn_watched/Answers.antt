use Rattle.std.proofs.Common.{◌∙◌, ap, sym}
use Rattle.std.specs.List.{list_any}
use Rattle.multi_hart.specs.Run.{State}
use Rattle.debugger.specs.Stops.{differs}
use Rattle.debugger.proofs.turns.turn_watched.Goals as goal

pub returns-clause-changed : goal.returns-clause-changed
returns-clause-changed c =
    sym (ap (λ (s : State). list_any (differs c.args.machine.now s) c.args.watches.now) c.turn_marking-told.ensures.state
    ∙ c.may_write.ensures c.if-may_write.false)
