use Rattle.std.proofs.Common.{length}
use Rattle.schedule_lines.proofs.directives.+add_reordered.Given as goal

abbrev pub decreases-add_reordered : goal.decreases-add_reordered
decreases-add_reordered l = length l.loops.now
