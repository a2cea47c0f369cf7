use Rattle.std.proofs.Common.{length}
use Rattle.hrv_command_line.proofs.command_lines.+choices_of.Given as goal

abbrev pub decreases-choices_of : goal.decreases-choices_of
decreases-choices_of l = length l.rows.now
