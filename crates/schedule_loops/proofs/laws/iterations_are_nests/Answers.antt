use Rattle.schedule_loops.proofs.Parallel.{iteration_visits}
use Rattle.schedule_loops.proofs.laws.iterations_are_nests.Goals as goal

pub returns : goal.returns
returns c = iteration_visits
