use Rattle.std.proofs.Common.{length}
use Rattle.task_code_borders.proofs.spans.+of_variable.Given as goal

abbrev pub decreases-of_variable : goal.decreases-of_variable
decreases-of_variable l = length l.spans.now
