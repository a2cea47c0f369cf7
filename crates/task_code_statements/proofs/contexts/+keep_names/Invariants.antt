use Rattle.std.proofs.Common.{length}
use Rattle.task_code_statements.proofs.contexts.+keep_names.Given as goal

abbrev pub decreases-keep_names : goal.decreases-keep_names
decreases-keep_names l = length l.names.now
