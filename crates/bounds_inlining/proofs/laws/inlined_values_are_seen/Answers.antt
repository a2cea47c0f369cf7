use Rattle.bounds_inlining.proofs.Seeing.{sees_inlined_values}
use Rattle.bounds_inlining.proofs.laws.inlined_values_are_seen.Goals as goal

pub returns : goal.returns
returns c = sees_inlined_values
