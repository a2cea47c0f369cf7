use Rattle.bounds_laws.proofs.BoxesProduced.{visits_lie}
use Rattle.bounds_laws.proofs.consumer_laws.visits_lie.Goals as goal

pub returns : goal.returns
returns c = visits_lie
