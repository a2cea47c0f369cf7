use Rattle.std.proofs.Common.{length}
use Rattle.bounds.proofs.views.+reach.Given as goal

abbrev pub decreases-reach : goal.decreases-reach
decreases-reach l = length l.loops.now
