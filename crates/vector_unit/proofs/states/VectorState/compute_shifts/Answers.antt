use Rattle.vector_unit.proofs.Whole.{low_bits}
use Rattle.vector_unit.proofs.states.VectorState.compute_shifts.Goals as goal

pub returns : goal.returns
returns c =
    let low = low_bits c.args.self.now c.requires.whole c.word_of_amount.result c.args.amount c.word_of_amount.ensures in
    rw (c.shift.ensures, low) at c.compute_numbers.ensures
