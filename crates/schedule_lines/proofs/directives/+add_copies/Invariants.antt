use Rattle.std.proofs.Common.{length}
use Rattle.schedule_lines.proofs.directives.+add_copies.Given as goal

abbrev pub decreases-add_copies : goal.decreases-add_copies
decreases-add_copies l = length l.loops.now
