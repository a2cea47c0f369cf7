use Rattle.std.proofs.Common.{length}
use Rattle.task_code_registers.proofs.sums.+has_variable.Given as goal

abbrev pub decreases-has_variable : goal.decreases-has_variable
decreases-has_variable l = length l.scope.now
