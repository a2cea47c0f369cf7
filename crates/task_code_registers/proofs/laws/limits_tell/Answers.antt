use Rattle.task_code_registers.proofs.Ending.{limits-tell}
use Rattle.task_code_registers.proofs.laws.limits_tell.Goals as goal

pub returns : goal.returns
returns c = limits-tell
