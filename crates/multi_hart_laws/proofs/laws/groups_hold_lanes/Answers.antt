use Rattle.multi_hart_laws.proofs.Groups.{group-holds, others-stay, size-stays}
use Rattle.multi_hart_laws.proofs.laws.groups_hold_lanes.Goals as goal

pub returns-clause-lanes : goal.returns-clause-lanes
returns-clause-lanes c = group-holds

pub returns-clause-others : goal.returns-clause-others
returns-clause-others c = others-stay

pub returns-clause-size : goal.returns-clause-size
returns-clause-size c = size-stays
