use Rattle.std.proofs.Common.{length}
use Rattle.schedule_lines.proofs.directives.+add_reductions.Given as goal

abbrev pub decreases-add_reductions : goal.decreases-add_reductions
decreases-add_reductions l = length l.loops.now
