use Rattle.std.proofs.Common.{length}
use Rattle.schedule_loops.proofs.Tables.{RowsLeft}
use Rattle.schedule_loops.proofs.sizes.LoopSizes.new.Given as goal

abbrev pub invariant-splits : goal.invariant-splits
invariant-splits l = RowsLeft l.extents l.splits l.rows l.rest

abbrev pub decreases-splits : goal.decreases-splits
decreases-splits l = length l.rest
