use Rattle.std.proofs.Common.{length}
use Rattle.task_code_vector_loops.proofs.configuring.+emit_least.Given as goal

abbrev pub decreases-emit_least : goal.decreases-emit_least
decreases-emit_least l = length l.others.now
