use Rattle.task_code_lane_values.proofs.Gathering.{distances-made}
use Rattle.task_code_lane_values.proofs.points.emit_distances.Goals as goal

pub returns : goal.returns
returns c =
    λ places before middle x y first second. distances-made places c.args.scope.now c.args.lanes c.args.k c.args.layout.now x y c.in_ok-s.s before middle _ _ _ _ _
    c.requires c.in_ok-s.ensures c.in_ok-emit_by.ensures c.in_ok-emit_two.ensures c.in_ok-emit_offsets.ensures first second
