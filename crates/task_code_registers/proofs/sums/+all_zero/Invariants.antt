use Rattle.std.proofs.Common.{length}
use Rattle.task_code_registers.proofs.sums.+all_zero.Given as goal

abbrev pub decreases-all_zero : goal.decreases-all_zero
decreases-all_zero l = length l.terms.now
