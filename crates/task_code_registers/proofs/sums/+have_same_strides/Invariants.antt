use Rattle.std.proofs.Common.{length}
use Rattle.task_code_registers.proofs.sums.+have_same_strides.Given as goal

abbrev pub decreases-have_same_strides : goal.decreases-have_same_strides
decreases-have_same_strides l = length l.new_terms.now
