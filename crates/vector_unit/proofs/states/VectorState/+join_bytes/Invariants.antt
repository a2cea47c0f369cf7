use Rattle.vector_unit.proofs.states.VectorState.+join_bytes.Given as goal

abbrev pub decreases-join_bytes : goal.decreases-join_bytes
decreases-join_bytes l = l.others
