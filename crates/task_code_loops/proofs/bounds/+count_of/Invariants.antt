use Rattle.std.proofs.Common.{length}
use Rattle.task_code_loops.proofs.bounds.+count_of.Given as goal

abbrev pub decreases-count_of : goal.decreases-count_of
decreases-count_of l = length l.bounds.now
