use Rattle.std.proofs.Common.{length}
use Rattle.bounds.proofs.layout.+placed.Given as goal

abbrev pub decreases-placed : goal.decreases-placed
decreases-placed l = length l.sizes.now
