use Rattle.multi_hart_laws.proofs.LaneLoads.{loads}
use Rattle.multi_hart_laws.proofs.laws.lanes_are_loaded.Goals as goal

pub returns : goal.returns
returns c = loads
