use Rattle.task_code_loops.proofs.Following.{one-more-is-laid-out}
use Rattle.task_code_loops.proofs.laws.one_more_is_laid_out.Goals as goal

pub returns : goal.returns
returns c = one-more-is-laid-out
