use Rattle.std.proofs.Common.{length}
use Rattle.task_code_registers.proofs.scopes.+is_held.Given as goal

abbrev pub decreases-is_held : goal.decreases-is_held
decreases-is_held l = length l.scope.now
