use Rattle.vector_unit.proofs.states.VectorState.compare_groups.Goals as goal

pub returns-clause-state : goal.returns-clause-state
returns-clause-state c = λ e. rw c.of_two_registers.ensures at c.compare_whole.ensures
