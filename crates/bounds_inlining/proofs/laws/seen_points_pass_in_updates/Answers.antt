use Rattle.bounds_inlining.proofs.Passing.{seen_points_pass_in_updates}
use Rattle.bounds_inlining.proofs.laws.seen_points_pass_in_updates.Goals as goal

pub returns : goal.returns
returns c = seen_points_pass_in_updates
