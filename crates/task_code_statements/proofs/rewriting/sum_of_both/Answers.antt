use Rattle.task_code_statements.proofs.Same.{leaf-found, sums-found}
use Rattle.task_code_statements.proofs.rewriting.sum_of_both.Goals as goal

pub returns-in_ok-new_sum-in-Some : goal.returns-in_ok-new_sum-in-Some
returns-in_ok-new_sum-in-Some c =
    sums-found c.args.operation c.args.a.now c.args.b.now c.in-Some.x c.in_ok-new_sum-in-Some.new_sum
    (leaf-found c.args.a.now c.in-Some.x _ c.in-Some.is c.in_ok-leaf_sum.ensures) c.in_ok-new_sum-in-Some.ensures
