use Rattle.vector_unit.proofs.states.VectorState.+write_parts.Given as goal

abbrev pub decreases-write_parts : goal.decreases-write_parts
decreases-write_parts l = l.others
