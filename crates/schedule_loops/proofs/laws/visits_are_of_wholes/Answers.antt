use Rattle.schedule_loops.proofs.Wholes.{visits_of_wholes}
use Rattle.schedule_loops.proofs.laws.visits_are_of_wholes.Goals as goal

pub returns : goal.returns
returns c = visits_of_wholes
