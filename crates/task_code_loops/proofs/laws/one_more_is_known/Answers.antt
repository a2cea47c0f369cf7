use Rattle.task_code_loops.proofs.Rewriting.{one-more-is-known}
use Rattle.task_code_loops.proofs.laws.one_more_is_known.Goals as goal

pub returns : goal.returns
returns c = one-more-is-known
