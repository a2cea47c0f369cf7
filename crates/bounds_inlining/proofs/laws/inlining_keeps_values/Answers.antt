use Rattle.bounds_inlining.proofs.Pixels.{inlining_keeps_values}
use Rattle.bounds_inlining.proofs.laws.inlining_keeps_values.Goals as goal

pub returns : goal.returns
returns c = inlining_keeps_values
