use Rattle.task_code_vector_loops.specs.Runs.{left_lanes}
use Rattle.task_code_vector_loops.proofs.Aiming.{far-at-once, far-in-parts, two-slots}
use Rattle.task_code_vector_loops.proofs.runs.emit_far.Goals as goal

pub emit_point_distances-requires : goal.emit_point_distances-requires
emit_point_distances-requires c = two-slots c.args.site.now.lanes.group

pub emit_in_parts-done-requires-clause-stack : goal.emit_in_parts-done-requires-clause-stack
emit_in_parts-done-requires-clause-stack c = two-slots c.args.site.now.lanes.group

pub returns-in_ok-emit_point_distances-in-None : goal.returns-in_ok-emit_point_distances-in-None
returns-in_ok-emit_point_distances-in-None c =
    far-at-once c.args.site.now.places.now c.args.site.now.scope.now c.args.site.now.lanes (left_lanes c.args.site.now.lanes c.args.left.now)
    c.args.point.now.place.now c.args.point.now.x.now c.args.point.now.y.now _ _ c.in_ok-emit_point_distances-in-None.ensures

pub returns-in_ok-done-in-Some : goal.returns-in_ok-done-in-Some
returns-in_ok-done-in-Some c =
    far-in-parts c.args.site.now.places.now c.args.site.now.scope.now c.args.site.now.lanes (left_lanes c.args.site.now.lanes c.args.left.now)
    c.args.point.now.place.now c.args.point.now.x.now c.args.point.now.y.now c.in_ok-made-in-Some.made _ _ c.in_ok-made-in-Some.ensures
    c.in_ok-done-in-Some.ensures
