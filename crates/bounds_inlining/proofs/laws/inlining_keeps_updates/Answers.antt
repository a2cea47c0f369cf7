use Rattle.bounds_inlining.proofs.Pixels.{inlining_keeps_updates}
use Rattle.bounds_inlining.proofs.laws.inlining_keeps_updates.Goals as goal

pub returns : goal.returns
returns c = inlining_keeps_updates
