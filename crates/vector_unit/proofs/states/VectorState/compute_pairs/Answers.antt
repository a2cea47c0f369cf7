use Rattle.std.proofs.Common.{rules, ◌∙◌}
use Rattle.vector_unit.proofs.Whole.{four_registers, one_register, two_registers, written_by_size}
use Rattle.vector_unit.proofs.states.VectorState.compute_pairs.Goals as goal

pub returns-then-size-gt2 : goal.returns-then-size-gt2
returns-then-size-gt2 g c =
    c.pair_four.ensures
    ∙ written_by_size c.args.self.now c.requires.whole 4 (search (rules, four_registers)) g.O.PairOperation.operation c.args.vd c.args.vs2
    (g.T.WordOperand.operand c.args.other)

pub returns-then-size-gt1 : goal.returns-then-size-gt1
returns-then-size-gt1 g c =
    c.pair_two.ensures
    ∙ written_by_size c.args.self.now c.requires.whole 2 (search (rules, two_registers)) g.O.PairOperation.operation c.args.vd c.args.vs2
    (g.T.WordOperand.operand c.args.other)

pub returns-else-size-gt1 : goal.returns-else-size-gt1
returns-else-size-gt1 g c =
    c.pair_one.ensures
    ∙ written_by_size c.args.self.now c.requires.whole 1 (search (rules, one_register)) g.O.PairOperation.operation c.args.vd c.args.vs2
    (g.T.WordOperand.operand c.args.other)
