use Rattle.std.proofs.Common.{length}
use Rattle.hrv_command_line.proofs.reading.+text_of.Given as goal

abbrev pub decreases-text_of : goal.decreases-text_of
decreases-text_of l = length l.choices.now
