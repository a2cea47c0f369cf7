use Rattle.task_code_variables.proofs.Fitting.{passed-on, store-faulty}
use Rattle.task_code_variables.proofs.Stores.{store-appends}
use Rattle.task_code_variables.proofs.statements.emit_numbered.Goals as goal

pub returns-clause-ok : goal.returns-clause-ok
returns-clause-ok c =
    store-appends c.args.site.now.places.now c.args.site.now.scope.now c.args.around.now c.args.store.now c.in_ok-made.made _ _ c.in_ok-made.ensures
    c.in_ok-emitted.ensures.ok

pub returns-in_err-emitted-clause-err : goal.returns-in_err-emitted-clause-err
returns-in_err-emitted-clause-err c =
    passed-on _ c.from_residual-in_err-emitted.result c.in_err-emitted.field-0.0 c.from_residual-in_err-emitted.ensures.1
    (store-faulty c.args.site.now.places.now c.args.site.now.scope.now c.args.around.now c.args.store.now c.in_ok-made.made _ c.requires
    c.in_ok-made.ensures) c.in_err-emitted.ensures.err
