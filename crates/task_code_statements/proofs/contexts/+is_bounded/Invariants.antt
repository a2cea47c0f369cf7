use Rattle.std.proofs.Common.{length}
use Rattle.task_code_statements.proofs.contexts.+is_bounded.Given as goal

abbrev pub decreases-is_bounded : goal.decreases-is_bounded
decreases-is_bounded l = length l.bounds.now
