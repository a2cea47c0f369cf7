use Rattle.std.proofs.Common.{length}
use Rattle.task_code_vector_loops.proofs.terms.+mentions.Given as goal

abbrev pub decreases-mentions : goal.decreases-mentions
decreases-mentions l = length l.scope.now
