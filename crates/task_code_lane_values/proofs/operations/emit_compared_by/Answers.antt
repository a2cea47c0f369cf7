use Rattle.task_code_lane_values.proofs.Comparing.{compared-by}
use Rattle.task_code_lane_values.proofs.operations.emit_compared_by.Goals as goal

pub returns-in_ok-emit_flagged-in-Some : goal.returns-in_ok-emit_flagged-in-Some
returns-in_ok-emit_flagged-in-Some c =
    compared-by c.args.group c.args.k c.requires.0 c.args.op c.args.s c.requires.1 c.in-Some.own c.in-Some.ensures _ _ _ _ c.slot-r.ensures.0
    c.in_ok-comparison_by-in-Some.ensures c.in_ok-emit_flagged-in-Some.ensures
