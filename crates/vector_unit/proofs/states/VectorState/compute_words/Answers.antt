use Rattle.vector_unit.proofs.states.VectorState.compute_words.Goals as goal

pub returns : goal.returns
returns c = rw c.of_two_registers.ensures at c.write_single.ensures
