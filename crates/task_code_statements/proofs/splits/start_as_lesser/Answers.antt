use Rattle.task_code_statements.proofs.Starting.{lesser-begins}
use Rattle.task_code_statements.proofs.splits.start_as_lesser.Goals as goal

pub returns : goal.returns
returns c =
    lesser-begins c.args.context.now c.args.whole.now c.as_slice.result.now c.in_ok-sum.sum c.args.last c.in_ok-e.e c.requires c.as_slice.ensures.value
    c.if-last-ge-NEGATIVE.false (c.is_below.ensures c.if-not-is_below.false) c.in_ok-sum.ensures c.in_ok-e.ensures
