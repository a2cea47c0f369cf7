use Rattle.task_code_clamps.proofs.Stepping.{up-is}
use Rattle.task_code_clamps.proofs.steps.stepped_up.Goals as goal

pub returns : goal.returns
returns c =
    up-is c.args.new_sum.now c.in_ok-first.first c.in_ok-second.second c.args.number c.in_ok-bound.bound c.in_ok-below.below c.in_ok-test.test c.in_ok-sum.sum
    c.in_ok-first.ensures c.in_ok-second.ensures c.in_ok-below.ensures c.in_ok-bound.ensures c.in_ok-test.ensures c.in_ok-sum.ensures
