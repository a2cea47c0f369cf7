use Rattle.std.proofs.Common.{length}
use Rattle.task_code_registers.proofs.holding.+other_terms.Given as goal

abbrev pub decreases-other_terms : goal.decreases-other_terms
decreases-other_terms l = length l.terms.now
