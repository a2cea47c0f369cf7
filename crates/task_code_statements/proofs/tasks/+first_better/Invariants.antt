use Rattle.std.proofs.Common.{length}
use Rattle.task_code_statements.proofs.tasks.+first_better.Given as goal

abbrev pub decreases-first_better : goal.decreases-first_better
decreases-first_better l = length l.reaches.now
