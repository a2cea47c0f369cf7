use Rattle.task_code_lane_values.proofs.Computing.{first-by, first-times}
use Rattle.task_code_lane_values.proofs.operations.emit_swapped.Goals as goal

pub returns-in_ok-multiplication_by-in-Multiply : goal.returns-in_ok-multiplication_by-in-Multiply
returns-in_ok-multiplication_by-in-Multiply c =
    first-times c.args.group c.args.k c.requires.0 c.args.op c.args.s c.requires.1 _ _ _ c.slot-r.ensures.0 c.in-Multiply.is
    c.in_ok-multiplication_by-in-Multiply.ensures

pub returns-in_ok-arithmetic_by-in-Some : goal.returns-in_ok-arithmetic_by-in-Some
returns-in_ok-arithmetic_by-in-Some c =
    first-by c.args.group c.args.k c.requires.0 c.args.op c.args.s c.requires.1 _ _ _ c.slot-r.ensures.0 c.in-Some.own c.in-Some.ensures
    c.in_ok-arithmetic_by-in-Some.ensures
