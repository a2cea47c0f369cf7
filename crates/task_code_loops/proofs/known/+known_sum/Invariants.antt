use Rattle.std.proofs.Common.{length}
use Rattle.task_code_loops.proofs.known.+known_sum.Given as goal

abbrev pub decreases-known_sum : goal.decreases-known_sum
decreases-known_sum l = length l.known.now
