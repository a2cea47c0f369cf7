use Rattle.std.proofs.Common.{length}
use Rattle.task_code_loops.proofs.bounds.+most_of.Given as goal

abbrev pub decreases-most_of : goal.decreases-most_of
decreases-most_of l = length l.terms.now
