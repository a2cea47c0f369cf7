use Rattle.std.proofs.Common.{length}
use Rattle.vector_unit.proofs.states.VectorState.+fill.Given as goal

abbrev pub decreases-fill : goal.decreases-fill
decreases-fill l = length l.active.now
