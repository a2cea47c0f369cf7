use Rattle.std.proofs.Common.{length}
use Rattle.schedule.proofs.placements.+outside.Given as goal

abbrev pub decreases-outside : goal.decreases-outside
decreases-outside l = length l.placements.now
