use Rattle.std.proofs.Common.{length}
use Rattle.bounds_ranges.proofs.bases.+more_sum.Given as goal

abbrev pub decreases-more_sum : goal.decreases-more_sum
decreases-more_sum l = length l.base.now
