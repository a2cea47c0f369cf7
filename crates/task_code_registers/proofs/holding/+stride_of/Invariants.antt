use Rattle.std.proofs.Common.{length}
use Rattle.task_code_registers.proofs.holding.+stride_of.Given as goal

abbrev pub decreases-stride_of : goal.decreases-stride_of
decreases-stride_of l = length l.terms.now
