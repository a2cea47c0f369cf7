use Rattle.lanes.proofs.Readings.{elements_back}
use Rattle.lanes.proofs.laws.elements_are_read_back.Goals as goal

pub returns : goal.returns
returns c = elements_back
