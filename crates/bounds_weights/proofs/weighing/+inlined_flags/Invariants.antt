use Rattle.std.proofs.Common.{length}
use Rattle.bounds_weights.proofs.weighing.+inlined_flags.Given as goal

abbrev pub decreases-inlined_flags : goal.decreases-inlined_flags
decreases-inlined_flags l = length l.standings.now
