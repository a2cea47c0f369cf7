use Rattle.std.proofs.Common.{length}
use Rattle.task_code_registers.proofs.scopes.+are_registers.Given as goal

abbrev pub decreases-are_registers : goal.decreases-are_registers
decreases-are_registers l = length l.scope.now
