use Rattle.std.proofs.Common.{length}
use Rattle.bounds.proofs.inference.+inputs_from.Given as goal

abbrev pub decreases-inputs_from : goal.decreases-inputs_from
decreases-inputs_from l = length l.inputs.now
