use Rattle.std.proofs.Common.{length}
use Rattle.hrv_map.proofs.stages.+push_stage_lines.Given as goal

abbrev pub decreases-push_stage_lines : goal.decreases-push_stage_lines
decreases-push_stage_lines l = length l.stages.now
