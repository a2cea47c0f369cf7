use Rattle.std.proofs.Common.{length}
use Rattle.schedule_lines.proofs.directives.+add_replaced.Given as goal

abbrev pub decreases-add_replaced : goal.decreases-add_replaced
decreases-add_replaced l = length l.loops.now
