use Rattle.std.proofs.Common.{length}
use Rattle.lowering_nests.proofs.splits.+with_splits.Given as goal

abbrev pub decreases-with_splits : goal.decreases-with_splits
decreases-with_splits l = length l.splits.now
