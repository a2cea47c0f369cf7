use Rattle.std.proofs.Common.{length}
use Rattle.schedule.proofs.placements.+is_called.Given as goal

abbrev pub decreases-is_called : goal.decreases-is_called
decreases-is_called l = length l.flags.now
