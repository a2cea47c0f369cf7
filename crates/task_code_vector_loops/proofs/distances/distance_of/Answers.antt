use Rattle.task_code_vector_loops.proofs.Aiming.{distance-is}
use Rattle.task_code_vector_loops.proofs.distances.distance_of.Goals as goal

pub returns : goal.returns
returns c =
    distance-is c.args.point.now.place.now c.args.point.now.x.now c.args.point.now.y.now c.in_ok-column.column c.in_ok-row.row c.in_ok-before.before _ _
    c.in_ok-expression.expression c.bytes_of.result c.in_ok-column.ensures c.in_ok-row.ensures c.in_ok-before.ensures c.in_ok-first.ensures c.in_ok-second.ensures
    c.bytes_of.ensures c.in_ok-expression.ensures
