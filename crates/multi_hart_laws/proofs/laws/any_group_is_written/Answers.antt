use Rattle.multi_hart_laws.proofs.FirstGroup.{any-lanes-given, groups-hold}
use Rattle.multi_hart_laws.proofs.FirstRows.{arithmetic-vv, arithmetic-vx, multiply-vx, shift-vi, lane-numbers}
use Rattle.multi_hart_laws.proofs.laws.any_group_is_written.Goals as goal

pub returns-clause-given : goal.returns-clause-given
returns-clause-given c = any-lanes-given

pub returns-clause-held : goal.returns-clause-held
returns-clause-held c = groups-hold

pub returns-clause-arithmetic : goal.returns-clause-arithmetic
returns-clause-arithmetic c = arithmetic-vv

pub returns-clause-number : goal.returns-clause-number
returns-clause-number c = arithmetic-vx

pub returns-clause-multiplication : goal.returns-clause-multiplication
returns-clause-multiplication c = multiply-vx

pub returns-clause-shift : goal.returns-clause-shift
returns-clause-shift c = shift-vi

pub returns-clause-numbers : goal.returns-clause-numbers
returns-clause-numbers c = lane-numbers
