use Rattle.bounds_laws.proofs.OwnPoints.{own_points_lie}
use Rattle.bounds_laws.proofs.consumer_laws.own_points_lie.Goals as goal

pub returns : goal.returns
returns c = own_points_lie
