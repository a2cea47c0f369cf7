use Rattle.lanes.proofs.Readings.{bytes_back}
use Rattle.lanes.proofs.laws.bytes_are_read_back.Goals as goal

pub returns : goal.returns
returns c = bytes_back
