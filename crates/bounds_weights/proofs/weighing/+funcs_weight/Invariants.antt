use Rattle.std.proofs.Common.{length}
use Rattle.bounds_weights.proofs.weighing.+funcs_weight.Given as goal

abbrev pub decreases-funcs_weight : goal.decreases-funcs_weight
decreases-funcs_weight l = length l.funcs.now
