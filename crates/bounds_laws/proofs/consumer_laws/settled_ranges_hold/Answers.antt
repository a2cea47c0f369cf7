use Rattle.bounds_laws.proofs.Settled.{settled_ranges_hold}
use Rattle.bounds_laws.proofs.consumer_laws.settled_ranges_hold.Goals as goal

pub returns : goal.returns
returns c = settled_ranges_hold
