-- The size of the expression; a kind's own function is between that and its parts.
use Rattle.std.proofs.Common.{◌+◌, ◌*◌}
use Rattle.halide_pipeline.specs.Expressions.{nodes}
use Rattle.picture.proofs.line_values.+shared_row.Given as goal

abbrev pub decreases-shared_row : goal.decreases-shared_row
decreases-shared_row l = nodes l.expr.now * 2

abbrev pub decreases-shared_binary : goal.decreases-shared_binary
decreases-shared_binary l = (nodes l.a.now + nodes l.b.now) * 2 + 1

abbrev pub decreases-shared_divide : goal.decreases-shared_divide
decreases-shared_divide l = nodes l.a.now * 2 + 1

abbrev pub decreases-shared_remainder : goal.decreases-shared_remainder
decreases-shared_remainder l = nodes l.a.now * 2 + 1

abbrev pub decreases-shared_select : goal.decreases-shared_select
decreases-shared_select l = (nodes l.condition.now + nodes l.a.now + nodes l.b.now) * 2 + 1

abbrev pub decreases-shared_call1 : goal.decreases-shared_call1
decreases-shared_call1 l = nodes l.x.now * 2 + 1

abbrev pub decreases-shared_call2 : goal.decreases-shared_call2
decreases-shared_call2 l = (nodes l.x.now + nodes l.y.now) * 2 + 1
