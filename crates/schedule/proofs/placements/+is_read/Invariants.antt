use Rattle.std.proofs.Common.{length}
use Rattle.schedule.proofs.placements.+is_read.Given as goal

abbrev pub decreases-is_read : goal.decreases-is_read
decreases-is_read l = length l.placements.now
