use Rattle.std.proofs.Common.{length}
use Rattle.task_code_registers.proofs.indexed.+find_term.Given as goal

abbrev pub decreases-find_term : goal.decreases-find_term
decreases-find_term l = length l.terms.now
