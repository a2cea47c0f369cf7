use Rattle.std.proofs.Common.{◌∙◌}
use Rattle.lanes.specs.Words.{zip_with}
use Rattle.vector_unit.specs.Operations as op
use Rattle.vector_unit.specs.inner.Wholes.{words_in, words_of}
use Rattle.vector_unit.proofs.Whole.{compared_count, compared_words}
use Rattle.vector_unit.proofs.states.VectorState.compare_words.Goals as goal

pub returns : goal.returns
returns g c =
    let state = c.args.self.now in
    let o = g.C.WordComparison.operation in
    let other = g.T.WordOperand.operand c.args.other in
    let bits = rw (c.words_at.ensures, c.words.ensures) at c.of-bits.ensures in
    c.write_four_mask_bits.ensures (zip_with (op.compare_vx o 32) (words_in state c.args.vs2 c.args.part) (words_of state other c.args.part))
    (compared_count state (op.compare_vx o 32) c.args.vs2 other c.args.part) bits
    ∙ compared_words state c.requires.whole o c.args.vs2 other c.args.part c.args.register.now c.requires.part
