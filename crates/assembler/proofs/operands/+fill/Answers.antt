use Rattle.std.proofs.Common.{◌∙◌, ap, option_map}
use Rattle.assembler.proofs.Filling.{nothing_left, one_more}
use Rattle.assembler.proofs.Fronts.{front_and_rest, no_front, named_front}
use Rattle.assembler.proofs.operands.+fill.Goals as goal

pub returns-in_default-operands : goal.returns-in_default-operands
returns-in_default-operands t c =
    nothing_left _ _ _ c.args.slots.now c.args.operands.now _ _ (front_and_rest c.args.slots.now _ c.in-len1-up.len_at_least)
    (no_front c.args.operands.now c.in_default-operands.len_below) (c.left_out.ensures _)

pub returns : goal.returns
returns t c =
    rw c.together.ensures
    (one_more _ _ _ c.args.slots.now _ _ c.args.operands.now _ _ _ _ _ (front_and_rest c.args.slots.now _ c.in-len1-up.len_at_least)
    (named_front c.args.operands.now _ c.operand-item.is c.in-len1-up-operands.len_at_least)
    (c.named_at.ensures ∙ ap (option_map _) c.in_default-named_at.is) c.fill_slot-first.ensures c.fill-others.ensures)
