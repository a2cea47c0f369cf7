use Rattle.vector_unit.proofs.states.VectorState.+join_words.Given as goal

abbrev pub decreases-join_words : goal.decreases-join_words
decreases-join_words l = l.others
