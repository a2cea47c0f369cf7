use Rattle.std.proofs.Common.{length}
use Rattle.lowering.proofs.corners.+add_base.Given as goal

abbrev pub decreases-add_base : goal.decreases-add_base
decreases-add_base l = length l.base.now
