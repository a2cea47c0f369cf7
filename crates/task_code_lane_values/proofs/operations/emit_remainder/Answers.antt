use Rattle.task_code_lane_values.proofs.Dividing.{remainder-as}
use Rattle.task_code_lane_values.proofs.operations.emit_remainder.Goals as goal

pub returns : goal.returns
returns c =
    remainder-as c.args.group c.args.k c.requires.0 c.args.s c.args.divisor _ _ c.slot-r.ensures.0 c.spare-u.ensures.0 _ _ _ _ _ _ _ c.requires.1.0
    c.requires.1.1
    c.in_ok-signs.ensures c.in_ok-arithmetic.ensures c.in_ok-multiplication_by.ensures c.in_ok-arithmetic-2.ensures c.in_ok-arithmetic_by.ensures
    c.in_ok-arithmetic-3.ensures
