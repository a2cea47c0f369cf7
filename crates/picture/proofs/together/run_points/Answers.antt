use Rattle.std.proofs.Common.{rules}
use Rattle.picture.proofs.together.run_points.Goals as goal

pub loop-number-preserved : goal.loop-number-preserved
loop-number-preserved c = c.in_ok-run_point.ensures.table (search rules)
