use Rattle.std.proofs.Common.{rules, ◌∙◌}
use Rattle.vector_unit.proofs.Whole.{four_registers, one_register, two_registers, written_new}
use Rattle.vector_unit.proofs.states.VectorState.give_whole.Goals as goal

pub returns-then-size-gt2 : goal.returns-then-size-gt2
returns-then-size-gt2 g c =
    c.give_four.ensures
    ∙ written_new c.args.self.now c.requires.whole 4 (search (rules, four_registers)) c.args.vd (g.N.WholeElements.elements c.args.new)

pub returns-then-size-gt1 : goal.returns-then-size-gt1
returns-then-size-gt1 g c =
    c.give_two.ensures
    ∙ written_new c.args.self.now c.requires.whole 2 (search (rules, two_registers)) c.args.vd (g.N.WholeElements.elements c.args.new)

pub returns-else-size-gt1 : goal.returns-else-size-gt1
returns-else-size-gt1 g c =
    c.give_one.ensures
    ∙ written_new c.args.self.now c.requires.whole 1 (search (rules, one_register)) c.args.vd (g.N.WholeElements.elements c.args.new)
