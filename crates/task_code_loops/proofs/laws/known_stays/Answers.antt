use Rattle.task_code_loops.proofs.Rewriting.{known-stays}
use Rattle.task_code_loops.proofs.laws.known_stays.Goals as goal

pub returns : goal.returns
returns c = known-stays
