use Rattle.std.proofs.Common.{length}
use Rattle.hrv_command_line.proofs.programs.+with_values.Given as goal

abbrev pub decreases-with_values : goal.decreases-with_values
decreases-with_values l = length l.values.now
