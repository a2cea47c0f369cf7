use Rattle.std.proofs.Common.{length}
use Rattle.bounds_weights.proofs.stage_needs.+funcs_needs.Given as goal

abbrev pub decreases-funcs_needs : goal.decreases-funcs_needs
decreases-funcs_needs l = length l.funcs.now
