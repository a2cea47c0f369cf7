use Rattle.task_code_values.proofs.Leaves.{leaf-number, leaf-linear}
use Rattle.task_code_values.proofs.needs.is_leaf.Goals as goal

pub returns-in-Number-clause-blind : goal.returns-in-Number-clause-blind
returns-in-Number-clause-blind c = λ is. leaf-number c.args.e.now _ c.in-Number.is

pub returns-in-Linear-clause-blind : goal.returns-in-Linear-clause-blind
returns-in-Linear-clause-blind c = λ is. leaf-linear c.args.e.now _ c.in-Linear.is
