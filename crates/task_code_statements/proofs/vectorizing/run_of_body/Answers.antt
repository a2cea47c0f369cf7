use Rattle.std.proofs.Common.{subst}
use Rattle.task_code_statements.specs.Vectorizing.{IsParted}
use Rattle.task_code_statements.proofs.AtOnce.{run-is}
use Rattle.task_code_statements.proofs.vectorizing.run_of_body.Goals as goal

pub returns : goal.returns
returns c =
    let tests = c.in_ok-fixed.ensures in
    run-is c.args.context.now c.in_ok-inner.inner c.args.lanes c.lanes.result c.args.body.now c.in_ok-made.made tests.parts _ c.as_slice-bounds.result.now
    c.lanes.ensures c.in_ok-inner.ensures c.in_ok-made.ensures c.as_slice-bounds.ensures.value
    (subst (λ l. IsParted c.args.lanes.counter l tests.parts) c.as_slice.ensures.value tests.parted) tests.left tests.first c.into_store.ensures
