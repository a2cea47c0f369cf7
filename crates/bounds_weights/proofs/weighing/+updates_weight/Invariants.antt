use Rattle.std.proofs.Common.{length}
use Rattle.bounds_weights.proofs.weighing.+updates_weight.Given as goal

abbrev pub decreases-updates_weight : goal.decreases-updates_weight
decreases-updates_weight l = length l.updates.now
