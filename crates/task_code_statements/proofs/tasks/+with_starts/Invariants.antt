use Rattle.std.proofs.Common.{length}
use Rattle.task_code_statements.proofs.tasks.+with_starts.Given as goal

abbrev pub decreases-with_starts : goal.decreases-with_starts
decreases-with_starts l = length l.others.now
