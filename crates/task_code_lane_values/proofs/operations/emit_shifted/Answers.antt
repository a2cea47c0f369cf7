use Rattle.task_code_lane_values.proofs.Powers.{shifted-as}
use Rattle.task_code_lane_values.proofs.operations.emit_shifted.Goals as goal

pub returns : goal.returns
returns c =
    shifted-as c.args.group c.args.k c.requires.0 c.args.divisor c.args.bits c.requires.1.0 c.requires.1.1 _ _ _ c.slot.ensures.0
    c.in_ok-shift_lanes_right.ensures
