use Rattle.schedule_loops.proofs.IterationsFound.{visits_are_made}
use Rattle.schedule_loops.proofs.laws.visits_are_made.Goals as goal

pub returns : goal.returns
returns c = visits_are_made
