use Rattle.std.proofs.Common.{length}
use Rattle.bounds_weights.proofs.copies.+all_copies.Given as goal

abbrev pub decreases-all_copies : goal.decreases-all_copies
decreases-all_copies l = length l.loops.now
