use Rattle.std.proofs.Common.{length}
use Rattle.task_code_lane_values.proofs.kept.+slot_of.Given as goal

abbrev pub decreases-slot_of : goal.decreases-slot_of
decreases-slot_of l = length l.kept.now
