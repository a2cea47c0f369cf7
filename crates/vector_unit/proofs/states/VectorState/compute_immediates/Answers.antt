use Rattle.vector_unit.proofs.Whole.{low_bits_of}
use Rattle.vector_unit.proofs.states.VectorState.compute_immediates.Goals as goal

pub returns : goal.returns
returns c =
    let low = low_bits_of c.args.self.now c.requires.whole c.word_of.result c.args.imm c.word_of.ensures.words in
    rw (c.with_immediate.ensures, low) at c.compute_numbers.ensures
