use Rattle.task_code_loops.proofs.Looped.{loops-are-made}
use Rattle.task_code_loops.proofs.laws.loops_are_made.Goals as goal

pub returns : goal.returns
returns c = loops-are-made
