use Rattle.multi_hart_laws.proofs.VectorRows.{move-vv, move-vx, move-vi, lane-numbers}
use Rattle.multi_hart_laws.proofs.laws.lanes_are_copied.Goals as goal

pub returns-clause-lanes : goal.returns-clause-lanes
returns-clause-lanes c = move-vv

pub returns-clause-number : goal.returns-clause-number
returns-clause-number c = move-vx

pub returns-clause-immediate : goal.returns-clause-immediate
returns-clause-immediate c = move-vi

pub returns-clause-numbers : goal.returns-clause-numbers
returns-clause-numbers c = lane-numbers
