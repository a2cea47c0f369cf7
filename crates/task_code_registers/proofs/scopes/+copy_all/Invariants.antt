use Rattle.std.proofs.Common.{length}
use Rattle.task_code_registers.proofs.scopes.+copy_all.Given as goal

abbrev pub decreases-copy_all : goal.decreases-copy_all
decreases-copy_all l = length l.scope.now
