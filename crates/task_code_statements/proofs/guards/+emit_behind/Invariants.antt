use Rattle.std.proofs.Common.{length}
use Rattle.task_code_statements.proofs.guards.+emit_behind.Given as goal

abbrev pub decreases-emit_behind : goal.decreases-emit_behind
decreases-emit_behind l = length l.guards.now
