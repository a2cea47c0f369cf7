use Rattle.std.proofs.Common.{length}
use Rattle.task_code_registers.proofs.sums.+find.Given as goal

abbrev pub decreases-find : goal.decreases-find
decreases-find l = length l.scope.now
