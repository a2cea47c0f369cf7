use Rattle.std.proofs.Common.{length}
use Rattle.task_code_variables.proofs.renaming.+standing.Given as goal

abbrev pub decreases-standing : goal.decreases-standing
decreases-standing l = length l.around.now
