use Rattle.std.proofs.Common.{length}
use Rattle.task_code_registers.proofs.sums.+have_registers.Given as goal

abbrev pub decreases-have_registers : goal.decreases-have_registers
decreases-have_registers l = length l.terms.now
