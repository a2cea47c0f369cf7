use Rattle.task_code_loops.proofs.Following.{scopes-forget}
use Rattle.task_code_loops.proofs.laws.scopes_forget.Goals as goal

pub returns : goal.returns
returns c = scopes-forget
