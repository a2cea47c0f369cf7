use Rattle.std.proofs.Common.{length}
use Rattle.hrv_map.proofs.lines.+push_input_lines.Given as goal

abbrev pub decreases-push_input_lines : goal.decreases-push_input_lines
decreases-push_input_lines l = length l.inputs.now
