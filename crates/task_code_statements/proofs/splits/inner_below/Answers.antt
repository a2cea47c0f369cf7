use Rattle.task_code_statements.proofs.Standing.{inner-is}
use Rattle.task_code_statements.proofs.splits.inner_below.Goals as goal

pub returns-then-is_below : goal.returns-then-is_below
returns-then-is_below c =
    inner-is c.args.context.now c.args.whole.now c.as_slice.result.now c.as_slice-2.result.now c.args.count c.in_ok-own.own c.in_ok-sum.sum
    c.as_slice.ensures.value c.as_slice-2.ensures.value c.in_ok-own.ensures.value c.in_ok-sum.ensures (c.is_below.ensures c.if-is_below.true)
