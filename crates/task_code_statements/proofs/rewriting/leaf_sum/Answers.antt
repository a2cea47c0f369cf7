use Rattle.task_code_statements.proofs.Same.{leaf-number, leaf-linear}
use Rattle.task_code_statements.proofs.rewriting.leaf_sum.Goals as goal

pub returns-in-Number : goal.returns-in-Number
returns-in-Number c = leaf-number c.args.e.now c.in-Number.n c.of_number.result c.in-Number.is c.of_number.ensures.value

pub returns-in_ok-sum-in-Linear : goal.returns-in_ok-sum-in-Linear
returns-in_ok-sum-in-Linear c = leaf-linear c.args.e.now c.in-Linear.own c.in_ok-sum-in-Linear.sum c.in-Linear.is c.in_ok-sum-in-Linear.ensures
