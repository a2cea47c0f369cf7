use Rattle.bounds_inlining.proofs.Passing.{passing_is_closed}
use Rattle.bounds_inlining.proofs.laws.passing_is_closed.Goals as goal

pub returns : goal.returns
returns c = passing_is_closed
