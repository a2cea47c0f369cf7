use Rattle.std.proofs.Common.{length}
use Rattle.task_code_statements.proofs.names.+emit_names.Given as goal

abbrev pub decreases-emit_names : goal.decreases-emit_names
decreases-emit_names l = length l.all.now
