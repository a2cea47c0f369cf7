use Rattle.std.proofs.Common.{length}
use Rattle.bounds_weights.proofs.copies.+copies_from.Given as goal

abbrev pub decreases-copies_from : goal.decreases-copies_from
decreases-copies_from l = length l.loops.now
