use Rattle.task_code_registers.proofs.Entering.{scopes-nest}
use Rattle.task_code_registers.proofs.laws.scopes_nest.Goals as goal

pub returns : goal.returns
returns c = scopes-nest
