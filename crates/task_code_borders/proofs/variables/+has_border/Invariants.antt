use Rattle.std.proofs.Common.{length}
use Rattle.task_code_borders.proofs.variables.+has_border.Given as goal

abbrev pub decreases-has_border : goal.decreases-has_border
decreases-has_border l = length l.terms.now
