use Rattle.task_code_values.proofs.Literals.{add-number, subtract-number, multiply-number}
use Rattle.task_code_values.proofs.immediates.immediate_number.Goals as goal

pub returns-then-fits : goal.returns-then-fits
returns-then-fits c = add-number c.args.operation c.args.number c.in-Add.is

pub returns-then-fits-2 : goal.returns-then-fits-2
returns-then-fits-2 c = subtract-number c.args.operation c.args.number c.subtract-opposite.result c.in-Subtract.is c.subtract-opposite.ensures

pub returns-then-number-eq1 : goal.returns-then-number-eq1
returns-then-number-eq1 c = multiply-number c.args.operation c.args.number c.in-Multiply.is
