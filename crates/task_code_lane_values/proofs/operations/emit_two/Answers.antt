use Rattle.std.proofs.Common.{◌<◌, arith}
use Rattle.task_code_lanes.specs.Groups.{slots}
use Rattle.task_code_lane_values.proofs.Computing.{two-as}
use Rattle.task_code_lane_values.proofs.operations.emit_two.Goals as goal

pub returns : goal.returns
returns c =
    let next = c.requires in
    let low : c.args.k < slots c.args.group = omega (arith, next) in
    two-as c.args.group c.args.k low c.args.op _ _ _ _ c.requires c.slot-r.ensures.0 c.slot.ensures.0 c.in_ok-emit_operation.ensures
