use Rattle.task_code_scalar.proofs.Refusing.{passed}
use Rattle.task_code_values.proofs.Scattering.{stands-above}
use Rattle.task_code_values.proofs.Updating.{update-made, other-held}
use Rattle.task_code_values.proofs.updates.emit_update.Goals as goal

pub returns-in_err-emit_change-clause-err : goal.returns-in_err-emit_change-clause-err
returns-in_err-emit_change-clause-err c =
    passed c.from_residual-in_err-emit_change.result c.in_err-emit_change.field-0.0 c.from_residual-in_err-emit_change.ensures.1 (λ long. long)
    (λ deep fits. deep (other-held c.args.site.now.scope.now c.args.store.now c.args.operation c.args.other.now c.requires.is fits.value_held))
    c.in_err-emit_change.ensures.err

pub returns-clause-ok : goal.returns-clause-ok
returns-clause-ok c =
    update-made c.args.site.now.places.now c.args.site.now.scope.now c.args.store.now c.args.operation c.args.other.now c.place_of-place.result
    c.in_ok-column.column
    c.in_ok-row.row c.in_ok-offset.offset _ _ _ _ _ _ _ c.requires.is c.place_of-place.ensures c.in_ok-column.ensures.ok c.in_ok-row.ensures.ok
    c.in_ok-offset.ensures.ok c.in_ok-emit_fetch.ensures c.in_ok-emit_change.ensures.ok c.in_ok-emit_save.ensures

pub reach_point-requires-clause-second : goal.reach_point-requires-clause-second
reach_point-requires-clause-second c = stands-above c.args.site.now.scope.now 20 c.in_ok-row.row c.in_ok-row.ensures.ok.stands
