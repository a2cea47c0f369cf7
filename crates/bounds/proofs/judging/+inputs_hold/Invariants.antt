use Rattle.std.proofs.Common.{length}
use Rattle.bounds.proofs.judging.+inputs_hold.Given as goal

abbrev pub decreases-inputs_hold : goal.decreases-inputs_hold
decreases-inputs_hold l = length l.inputs.now
