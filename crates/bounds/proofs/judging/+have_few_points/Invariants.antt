use Rattle.std.proofs.Common.{length}
use Rattle.bounds.proofs.judging.+have_few_points.Given as goal

abbrev pub decreases-have_few_points : goal.decreases-have_few_points
decreases-have_few_points l = length l.boxes.now
