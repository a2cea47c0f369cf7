use Rattle.vector_unit.proofs.states.VectorState.+compare_parts.Given as goal

abbrev pub decreases-compare_parts : goal.decreases-compare_parts
decreases-compare_parts l = l.others
