use Rattle.bounds_inlining.proofs.Passing.{seen_points_pass}
use Rattle.bounds_inlining.proofs.laws.seen_points_pass.Goals as goal

pub returns : goal.returns
returns c = seen_points_pass
