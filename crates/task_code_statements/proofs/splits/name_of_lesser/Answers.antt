use Rattle.task_code_statements.proofs.Starting.{has-if}
use Rattle.task_code_statements.proofs.splits.name_of_lesser.Goals as goal

pub returns : goal.returns
returns c =
    has-if c.args.context.now c.as_slice-2.result.now c.as_slice.result.now c.args.product c.args.last c.in_ok-e.e c.name_for-counter.result
    c.as_slice-2.ensures.value c.as_slice.ensures.value c.if-last-ge-NEGATIVE.false (c.is_below.ensures c.if-not-is_below.false) c.in_ok-e.ensures
    c.name_for-counter.ensures
