use Rattle.multi_hart_laws.proofs.LaneRows.{lanes-given}
use Rattle.multi_hart_laws.proofs.laws.lanes_are_given.Goals as goal

pub returns : goal.returns
returns c = lanes-given
