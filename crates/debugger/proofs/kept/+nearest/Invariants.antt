use Rattle.std.proofs.Common.{length}
use Rattle.debugger.proofs.kept.+nearest.Given as goal

abbrev pub decreases-nearest : goal.decreases-nearest
decreases-nearest l = length l.kept.now
