use Rattle.std.proofs.Common.{length}
use Rattle.task_code_registers.proofs.sums.+same_terms.Given as goal

abbrev pub decreases-same_terms : goal.decreases-same_terms
decreases-same_terms l = length l.a.now
