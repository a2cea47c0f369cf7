use Rattle.std.proofs.Common.{length}
use Rattle.hrv_map.proofs.lines.+loop_name.Given as goal

abbrev pub decreases-loop_name : goal.decreases-loop_name
decreases-loop_name l = length l.loops.now
