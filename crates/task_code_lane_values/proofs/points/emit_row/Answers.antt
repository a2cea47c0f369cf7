use Rattle.task_code_lane_values.proofs.Gathering.{row-as}
use Rattle.task_code_lane_values.proofs.points.emit_row.Goals as goal

pub returns : goal.returns
returns c =
    λ x sum. row-as c.args.site.now.places.now c.args.site.now.scope.now c.args.site.now.lanes c.args.k c.requires.slot c.args.row.now.source
    c.place_of-place.result c.place_of-place.ensures
    c.args.column.now
    c.in_ok-b.b _ _ _ x c.args.row.now.y.now sum c.requires.stride c.requires.row c.in_ok-b.ensures c.in_ok-emit_along.ensures
