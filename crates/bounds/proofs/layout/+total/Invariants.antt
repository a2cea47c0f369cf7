use Rattle.std.proofs.Common.{length}
use Rattle.bounds.proofs.layout.+total.Given as goal

abbrev pub decreases-total : goal.decreases-total
decreases-total l = length l.sizes.now
