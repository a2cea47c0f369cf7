use Rattle.task_code_registers.proofs.Advancing.{scopes-stay}
use Rattle.task_code_registers.proofs.laws.scopes_stay.Goals as goal

pub returns : goal.returns
returns c = scopes-stay
