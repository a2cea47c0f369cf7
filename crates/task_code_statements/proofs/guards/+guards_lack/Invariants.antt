use Rattle.std.proofs.Common.{length}
use Rattle.task_code_statements.proofs.guards.+guards_lack.Given as goal

abbrev pub decreases-guards_lack : goal.decreases-guards_lack
decreases-guards_lack l = length l.guards.now
