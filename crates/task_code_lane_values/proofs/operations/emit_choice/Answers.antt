use Rattle.task_code_lane_values.proofs.Choosing.{choice-as}
use Rattle.task_code_lane_values.proofs.operations.emit_choice.Goals as goal

pub returns : goal.returns
returns c =
    choice-as c.args.group c.args.k c.args.c c.args.a c.args.b c.requires.0 c.requires.1.0 c.requires.1.1.0 c.requires.1.1.1 _ _ _ _ _ _ _
    c.slot-2.ensures.0 c.slot.ensures.0 c.slot-4.ensures.0 c.slot-3.ensures.0 c.in_ok-test_nonzero.ensures c.in_ok-merge.ensures
