use Rattle.multi_hart_laws.proofs.FirstLanes.{first-read}
use Rattle.multi_hart_laws.proofs.laws.first_lanes_are_read.Goals as goal

pub returns : goal.returns
returns c = first-read
