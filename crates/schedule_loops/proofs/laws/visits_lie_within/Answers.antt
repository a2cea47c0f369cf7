use Rattle.schedule_loops.proofs.Slices.{visits_within}
use Rattle.schedule_loops.proofs.laws.visits_lie_within.Goals as goal

pub returns : goal.returns
returns c = visits_within
