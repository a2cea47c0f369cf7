use Rattle.task_code_scalar.proofs.Refusing.{passed}
use Rattle.task_code_values.proofs.Parked.{store-reached}
use Rattle.task_code_values.proofs.stores.reach_store.Goals as goal

pub returns-clause-ok : goal.returns-clause-ok
returns-clause-ok c =
    store-reached c.args.site.now.places.now c.args.site.now.scope.now c.requires c.args.store.now c.in_ok-register.register c.in_ok-offset.offset
    _ _ _ _ _ c.in_ok-offset.ensures.ok c.in_ok-emit_park.ensures c.in_ok-register.ensures.ok c.in_ok-emit_unpark.ensures

pub returns-in_err-register-clause-err : goal.returns-in_err-register-clause-err
returns-in_err-register-clause-err c =
    passed c.from_residual-in_err-register.result c.in_err-register.field-0.0 c.from_residual-in_err-register.ensures.1 (λ long. long)
    (λ deep fits. deep fits.value_held fits.room) c.in_err-register.ensures.err
