use Rattle.std.proofs.Common.{arith}
use Rattle.task_code_lane_values.proofs.Powers.{masked-as}
use Rattle.task_code_lane_values.proofs.operations.emit_masked.Goals as goal

pub returns : goal.returns
returns c =
    masked-as c.args.group c.args.k c.requires.0 c.args.divisor c.args.bits c.args.s c.requires.1.1.0 c.requires.1.1.1
    (omega arith) c.requires.1.0 _ _ _ c.slot-r.ensures.0
    c.in_ok-arithmetic_by.ensures
