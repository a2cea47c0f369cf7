use Rattle.task_code_values.proofs.Saving.{scattered-made}
use Rattle.task_code_values.proofs.Scattering.{stands-above}
use Rattle.task_code_values.proofs.stores.emit_scattered.Goals as goal

pub returns-clause-ok : goal.returns-clause-ok
returns-clause-ok c =
    scattered-made c.args.site.now.places.now c.args.site.now.scope.now c.args.store.now c.place_of-place.result c.in_ok-column.column c.in_ok-row.row
    c.in_ok-s.s c.in_ok-offset.offset _ _ _ _ _ _ c.place_of-place.ensures c.in_ok-s.ensures.ok c.in_ok-column.ensures.ok c.in_ok-row.ensures.ok
    c.in_ok-offset.ensures.ok c.in_ok-emit_save.ensures

pub reach_point-requires-clause-second : goal.reach_point-requires-clause-second
reach_point-requires-clause-second c = stands-above c.args.site.now.scope.now 21 c.in_ok-row.row c.in_ok-row.ensures.ok.stands
