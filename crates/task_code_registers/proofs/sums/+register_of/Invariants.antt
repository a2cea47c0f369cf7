use Rattle.std.proofs.Common.{length}
use Rattle.task_code_registers.proofs.sums.+register_of.Given as goal

abbrev pub decreases-register_of : goal.decreases-register_of
decreases-register_of l = length l.scope.now
