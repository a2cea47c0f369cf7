use Rattle.task_code_registers.proofs.Looping.{loops-iterate}
use Rattle.task_code_registers.proofs.laws.loops_iterate.Goals as goal

pub returns : goal.returns
returns c = loops-iterate
