use Rattle.std.proofs.Common.{length}
use Rattle.bounds.proofs.readings.+read_from.Given as goal

abbrev pub decreases-read_from : goal.decreases-read_from
decreases-read_from l = length l.boxes.now
