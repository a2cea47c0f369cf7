use Rattle.std.proofs.Common.{length}
use Rattle.hrv_map.proofs.phases.+push_phase_lines.Given as goal

abbrev pub decreases-push_phase_lines : goal.decreases-push_phase_lines
decreases-push_phase_lines l = length l.phases.now
