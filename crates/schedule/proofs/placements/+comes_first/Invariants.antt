use Rattle.std.proofs.Common.{length}
use Rattle.schedule.proofs.placements.+comes_first.Given as goal

abbrev pub decreases-comes_first : goal.decreases-comes_first
decreases-comes_first l = length l.loops.now
