use Rattle.std.proofs.Common.{refl}
use Rattle.task_code_statements.proofs.Same.{leaf-linear, leaf-number, sum-found}
use Rattle.task_code_statements.proofs.rewriting.sum_with.Goals as goal

pub returns-in_ok-new_sum-in-Number : goal.returns-in_ok-new_sum-in-Number
returns-in_ok-new_sum-in-Number c =
    sum-found c.args.operation c.args.b.now c.args.x c.of_number-y.result c.in_ok-new_sum-in-Number.new_sum
    (leaf-number c.args.b.now c.in-Number.n c.of_number-y.result c.in-Number.is c.of_number-y.ensures.value) c.in_ok-new_sum-in-Number.ensures

pub returns-in_ok-new_sum-in-Linear : goal.returns-in_ok-new_sum-in-Linear
returns-in_ok-new_sum-in-Linear c =
    sum-found c.args.operation c.args.b.now c.args.x c.in-Linear.y c.in_ok-new_sum-in-Linear.new_sum
    (leaf-linear c.args.b.now c.in-Linear.y c.in-Linear.y c.in-Linear.is refl) c.in_ok-new_sum-in-Linear.ensures
