use Rattle.std.proofs.Common.{length}
use Rattle.task_code_vector_loops.proofs.terms.+has_term.Given as goal

abbrev pub decreases-has_term : goal.decreases-has_term
decreases-has_term l = length l.terms.now
