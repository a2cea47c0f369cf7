use Rattle.std.proofs.Common.{arith, ◌<◌, ◌+◌}
use Rattle.task_code_lanes.specs.Groups.{slots}
use Rattle.task_code_lane_values.proofs.Gathering.{scattered-made}
use Rattle.task_code_lane_values.proofs.points.emit_scattered.Goals as goal

pub returns : goal.returns
returns c =
    let next = c.requires in
    let in-stack : c.args.k < slots c.args.site.now.lanes.group = omega (arith, next) in
    λ before middle x y first second. scattered-made c.args.site.now.places.now c.args.site.now.scope.now c.args.site.now.lanes c.args.k in-stack c.args.source
    c.place_of-place.result
    c.place_of-place.ensures c.of_number-zero.result c.in_ok-form.form c.in_ok-start.start _ c.in_ok-b.b _ _ _ c.of_number-zero.ensures.value
    c.in_ok-form.ensures c.in_ok-start.ensures c.in_ok-b.ensures c.in_ok-emit_from.ensures before x y
    (c.in_ok-emit_distances.ensures c.args.site.now.places.now before middle x y first second)
