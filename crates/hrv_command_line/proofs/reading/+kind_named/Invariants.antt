use Rattle.std.proofs.Common.{length}
use Rattle.hrv_command_line.proofs.reading.+kind_named.Given as goal

abbrev pub decreases-kind_named : goal.decreases-kind_named
decreases-kind_named l = length l.choices.now
