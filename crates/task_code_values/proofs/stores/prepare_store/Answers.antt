use Rattle.task_code_values.proofs.Parked.{store-prepared}
use Rattle.task_code_values.proofs.stores.prepare_store.Goals as goal

pub returns-clause-ok : goal.returns-clause-ok
returns-clause-ok c =
    store-prepared c.args.places.now c.args.scope.now c.requires c.args.store.now c.in_ok-at.at.register c.in_ok-at.at.offset _ _ _
    c.in_ok-at.ensures.ok (c.in_ok-emit_plus.ensures.small c.in_ok-at.ensures.ok.fits)
