use Rattle.multi_hart_laws.proofs.MaskRows.{merge-vv, merge-vx, merge-vi}
use Rattle.multi_hart_laws.proofs.laws.lanes_are_chosen.Goals as goal

pub returns-clause-lanes : goal.returns-clause-lanes
returns-clause-lanes c = merge-vv

pub returns-clause-number : goal.returns-clause-number
returns-clause-number c = merge-vx

pub returns-clause-immediate : goal.returns-clause-immediate
returns-clause-immediate c = merge-vi
