use Rattle.task_code_registers.proofs.Knowing.{working-free}
use Rattle.task_code_registers.proofs.laws.working_registers_are_free.Goals as goal

pub returns : goal.returns
returns c = working-free
