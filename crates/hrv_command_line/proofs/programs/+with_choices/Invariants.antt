use Rattle.std.proofs.Common.{length}
use Rattle.hrv_command_line.proofs.programs.+with_choices.Given as goal

abbrev pub decreases-with_choices : goal.decreases-with_choices
decreases-with_choices l = length l.choices.now
