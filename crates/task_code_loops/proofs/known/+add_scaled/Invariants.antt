use Rattle.std.proofs.Common.{length}
use Rattle.task_code_loops.proofs.known.+add_scaled.Given as goal

abbrev pub decreases-add_scaled : goal.decreases-add_scaled
decreases-add_scaled l = length l.terms.now
