use Rattle.multi_hart_laws.proofs.VectorRows.{arithmetic-vx, multiply-vx, arithmetic-vi, shift-vi}
use Rattle.multi_hart_laws.proofs.laws.lanes_meet_a_number.Goals as goal

pub returns-clause-arithmetic : goal.returns-clause-arithmetic
returns-clause-arithmetic c = arithmetic-vx

pub returns-clause-multiplication : goal.returns-clause-multiplication
returns-clause-multiplication c = multiply-vx

pub returns-clause-immediate : goal.returns-clause-immediate
returns-clause-immediate c = arithmetic-vi

pub returns-clause-shift : goal.returns-clause-shift
returns-clause-shift c = shift-vi
