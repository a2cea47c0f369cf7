use Rattle.task_code_loops.proofs.Combining.{sum-combined}
use Rattle.task_code_loops.proofs.sums.plus.Goals as goal

pub returns : goal.returns
returns c =
    sum-combined c.args.x c.args.y.now c.of_number.result c.in_ok-opposite.opposite c.in_ok-new_sum.new_sum c.of_number.ensures.value
    c.in_ok-opposite.ensures.value c.in_ok-new_sum.ensures.value
