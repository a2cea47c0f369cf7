use Rattle.std.proofs.Common.{length}
use Rattle.lowering_nests.proofs.loops.+with_loops.Given as goal

abbrev pub decreases-with_loops : goal.decreases-with_loops
decreases-with_loops l = length l.loops.now
