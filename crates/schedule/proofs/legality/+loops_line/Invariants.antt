use Rattle.std.proofs.Common.{length}
use Rattle.schedule.proofs.legality.+loops_line.Given as goal

abbrev pub decreases-loops_line : goal.decreases-loops_line
decreases-loops_line l = length l.loops.now
