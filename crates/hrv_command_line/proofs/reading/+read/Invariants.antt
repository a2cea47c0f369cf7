use Rattle.std.proofs.Common.{length}
use Rattle.hrv_command_line.proofs.reading.+read.Given as goal

abbrev pub decreases-read : goal.decreases-read
decreases-read l = length l.words.now
