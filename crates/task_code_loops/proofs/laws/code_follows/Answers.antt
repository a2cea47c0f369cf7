use Rattle.task_code_loops.proofs.Following.{code-follows}
use Rattle.task_code_loops.proofs.laws.code_follows.Goals as goal

pub returns : goal.returns
returns c = code-follows
