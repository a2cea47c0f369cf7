use Rattle.std.proofs.Common.{length}
use Rattle.task_code_registers.proofs.points.+add_times.Given as goal

abbrev pub decreases-add_times : goal.decreases-add_times
decreases-add_times l = length l.terms.now
