use Rattle.std.proofs.Common.{length}
use Rattle.task_code_registers.proofs.sums.+emit_sum.Given as goal

abbrev pub decreases-emit_sum : goal.decreases-emit_sum
decreases-emit_sum l = length l.terms.now
