use Rattle.std.proofs.Common.{length}
use Rattle.task_code_statements.proofs.contexts.+keep_others.Given as goal

abbrev pub decreases-keep_others : goal.decreases-keep_others
decreases-keep_others l = length l.known.now
