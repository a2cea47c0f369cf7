use Rattle.std.proofs.Common.{length}
use Rattle.schedule_loops.specs.Reach as spec
use Rattle.schedule_loops.proofs.Reaching.{ReachLeft}
use Rattle.schedule_loops.proofs.sizes.LoopSizes.reach.Given as goal

abbrev pub invariant-loops : goal.invariant-loops
invariant-loops l = ReachLeft (spec.most_added l.self.extents l.self.splits l.variable) l.loops l.rest l.reach

abbrev pub decreases-loops : goal.decreases-loops
decreases-loops l = length l.rest
