use Rattle.std.proofs.Common.{length}
use Rattle.bounds_ranges.proofs.bases.+less_sum.Given as goal

abbrev pub decreases-less_sum : goal.decreases-less_sum
decreases-less_sum l = length l.base.now
