use Rattle.std.proofs.Common.{◌-◌}
use Rattle.task_code_registers.proofs.numbers.+power_from.Given as goal

abbrev pub decreases-power_from : goal.decreases-power_from
decreases-power_from l = 32 - l.exponent
