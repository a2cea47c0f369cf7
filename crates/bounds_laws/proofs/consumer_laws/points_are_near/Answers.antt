use Rattle.bounds_laws.proofs.BoxesProduced.{points_are_near}
use Rattle.bounds_laws.proofs.consumer_laws.points_are_near.Goals as goal

pub returns : goal.returns
returns c = points_are_near
