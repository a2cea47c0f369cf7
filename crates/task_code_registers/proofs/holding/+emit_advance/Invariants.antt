use Rattle.std.proofs.Common.{length}
use Rattle.task_code_registers.proofs.holding.+emit_advance.Given as goal

abbrev pub decreases-emit_advance : goal.decreases-emit_advance
decreases-emit_advance l = length l.inner.now
