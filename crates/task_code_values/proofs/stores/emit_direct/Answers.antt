use Rattle.task_code_scalar.proofs.Refusing.{passed}
use Rattle.task_code_values.proofs.Saving.{store-made, point-held}
use Rattle.task_code_values.proofs.stores.emit_direct.Goals as goal

pub returns-clause-ok : goal.returns-clause-ok
returns-clause-ok c =
    store-made c.args.site.now.places.now c.args.site.now.scope.now c.args.store.now c.in_ok-column.column c.in_ok-row.row c.in_ok-form.form
    c.place_of-place.result c.in_ok-at.at c.in_ok-s.s _ _ _ _ c.in_ok-column.ensures.ok c.in_ok-row.ensures.ok
    c.place_of-place.ensures c.in_ok-form.ensures c.in_ok-s.ensures.ok c.in_ok-at.ensures.ok c.in_ok-emit_save.ensures

pub returns-in_err-column-clause-err : goal.returns-in_err-column-clause-err
returns-in_err-column-clause-err c =
    passed c.from_residual.result c.in_err-column.field-0.0 c.from_residual.ensures.1 (λ long. long) (λ deep fits. deep fits.column)
    c.in_err-column.ensures.err

pub returns-in_err-row-clause-err : goal.returns-in_err-row-clause-err
returns-in_err-row-clause-err c =
    passed c.from_residual-in_err-row.result c.in_err-row.field-0.0 c.from_residual-in_err-row.ensures.1 (λ long. long) (λ deep fits. deep fits.row)
    c.in_err-row.ensures.err

pub returns-in_err-s-clause-err : goal.returns-in_err-s-clause-err
returns-in_err-s-clause-err c =
    passed c.from_residual-in_err-s.result c.in_err-s.field-0.0 c.from_residual-in_err-s.ensures.1 (λ long. long) (λ deep fits. deep fits.value_held
    fits.room) c.in_err-s.ensures.err

pub returns-in_err-at-clause-err : goal.returns-in_err-at-clause-err
returns-in_err-at-clause-err c =
    passed c.from_residual-in_err-at.result c.in_err-at.field-0.0 c.from_residual-in_err-at.ensures.1 (λ long. long) (λ deep fits. deep (point-held
    c.args.site.now.places.now
    c.args.site.now.scope.now c.args.store.now c.place_of-place.result c.in_ok-column.column c.in_ok-row.row c.in_ok-form.form c.in_ok-form.ensures
    c.in_ok-column.ensures.ok
    c.in_ok-row.ensures.ok fits)) c.in_err-at.ensures.err
