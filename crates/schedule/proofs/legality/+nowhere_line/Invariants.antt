use Rattle.std.proofs.Common.{length}
use Rattle.schedule.proofs.legality.+nowhere_line.Given as goal

abbrev pub decreases-nowhere_line : goal.decreases-nowhere_line
decreases-nowhere_line l = length l.standings.now
