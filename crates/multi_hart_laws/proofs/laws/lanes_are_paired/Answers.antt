use Rattle.multi_hart_laws.proofs.VectorRows.{arithmetic-vv, multiply-vv}
use Rattle.multi_hart_laws.proofs.laws.lanes_are_paired.Goals as goal

pub returns-clause-arithmetic : goal.returns-clause-arithmetic
returns-clause-arithmetic c = arithmetic-vv

pub returns-clause-multiplication : goal.returns-clause-multiplication
returns-clause-multiplication c = multiply-vv
