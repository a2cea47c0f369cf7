use Rattle.task_code_loops.proofs.Following.{none-are-laid-out}
use Rattle.task_code_loops.proofs.laws.none_are_laid_out.Goals as goal

pub returns : goal.returns
returns c = none-are-laid-out
