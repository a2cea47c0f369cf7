use Rattle.std.proofs.Common.{length}
use Rattle.task_code_loops.proofs.known.+add_known.Given as goal

abbrev pub decreases-add_known : goal.decreases-add_known
decreases-add_known l = length l.terms.now
