use Rattle.vector_unit.proofs.states.VectorState.compare_immediate.Goals as goal

pub returns-clause-state : goal.returns-clause-state
returns-clause-state c = λ e. rw c.with_immediate.ensures at c.compare_whole.ensures
