use Rattle.task_code_lane_values.proofs.Gathering.{gather-made}
use Rattle.task_code_lane_values.proofs.points.emit_gather.Goals as goal

pub returns : goal.returns
returns c =
    λ before x first. gather-made c.args.site.now.places.now c.args.site.now.scope.now c.args.site.now.lanes c.args.k c.requires.slot c.args.row.now.source
    c.place_of-place.result
    c.place_of-place.ensures
    c.of_number-zero.result c.in_ok-b.b _ _ _ _ c.args.row.now.y.now c.of_number-zero.ensures.value c.requires.row c.in_ok-emit_offsets.ensures
    c.in_ok-b.ensures
    c.in_ok-emit_from.ensures before x first
