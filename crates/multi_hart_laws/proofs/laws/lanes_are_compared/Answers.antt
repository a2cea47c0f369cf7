use Rattle.multi_hart_laws.proofs.MaskRows.{compare-vv, compare-vx, compare-vi}
use Rattle.multi_hart_laws.proofs.laws.lanes_are_compared.Goals as goal

pub returns-clause-lanes : goal.returns-clause-lanes
returns-clause-lanes c = compare-vv

pub returns-clause-number : goal.returns-clause-number
returns-clause-number c = compare-vx

pub returns-clause-immediate : goal.returns-clause-immediate
returns-clause-immediate c = compare-vi
