use Rattle.vector_unit.proofs.states.VectorState.+join_halves.Given as goal

abbrev pub decreases-join_halves : goal.decreases-join_halves
decreases-join_halves l = l.others
