use Rattle.work_sharing.proofs.Single.{alone-stops}
use Rattle.work_sharing.proofs.laws.alone_stops.Goals as goal

pub returns : goal.returns
returns c = alone-stops
