use Rattle.task_code_scalar.proofs.Refusing.{passed}
use Rattle.task_code_values.proofs.Parked.{point-made, column-stands, row-stands}
use Rattle.task_code_values.proofs.stores.emit_store_point.Goals as goal

pub returns-clause-ok : goal.returns-clause-ok
returns-clause-ok c =
    point-made c.args.site.now.places.now c.args.site.now.scope.now c.requires c.args.store.now c.place_of-place.result c.in_ok-first.first
    c.in_ok-second.second c.in_ok-offset.offset _ _ _ _ _ _ _ c.place_of-place.ensures c.in_ok-emit_parking.ensures c.in_ok-first.ensures.ok
    c.in_ok-emit_park.ensures c.in_ok-second.ensures.ok c.in_ok-emit_unpark.ensures c.in_ok-offset.ensures.ok

pub returns-in_err-first-clause-err : goal.returns-in_err-first-clause-err
returns-in_err-first-clause-err c =
    passed c.from_residual-in_err-first.result c.in_err-first.field-0.0 c.from_residual-in_err-first.ensures.1 (λ long. long)
    (λ deep fits. deep fits.column_held fits.column_room) c.in_err-first.ensures.err

pub returns-in_err-second-clause-err : goal.returns-in_err-second-clause-err
returns-in_err-second-clause-err c =
    passed c.from_residual-in_err-second.result c.in_err-second.field-0.0 c.from_residual-in_err-second.ensures.1 (λ long. long)
    (λ deep fits. deep fits.row_held fits.row_room) c.in_err-second.ensures.err

pub returns-in_err-offset-clause-err : goal.returns-in_err-offset-clause-err
returns-in_err-offset-clause-err c =
    passed c.from_residual-in_err-offset.result c.in_err-offset.field-0.0 c.from_residual-in_err-offset.ensures.1 (λ long. long)
    (λ deep fits. deep tt tt) c.in_err-offset.ensures.err

pub reach_point-requires-clause-first : goal.reach_point-requires-clause-first
reach_point-requires-clause-first c = column-stands c.args.site.now.scope.now

pub reach_point-requires-clause-second : goal.reach_point-requires-clause-second
reach_point-requires-clause-second c =
    row-stands c.args.site.now.places.now c.args.site.now.scope.now c.requires c.in_ok-second.second c.args.store.now _ _ c.in_ok-second.ensures.ok
