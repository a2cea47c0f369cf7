use Rattle.std.proofs.Common.{length}
use Rattle.task_code_statements.proofs.guards.+add_left.Given as goal

abbrev pub decreases-add_left : goal.decreases-add_left
decreases-add_left l = length l.guards.now
