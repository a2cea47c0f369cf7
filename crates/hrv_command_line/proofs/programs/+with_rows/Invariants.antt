use Rattle.std.proofs.Common.{length}
use Rattle.hrv_command_line.proofs.programs.+with_rows.Given as goal

abbrev pub decreases-with_rows : goal.decreases-with_rows
decreases-with_rows l = length l.rows.now
