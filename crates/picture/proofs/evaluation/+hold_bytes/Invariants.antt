use Rattle.std.proofs.Common.{length}
use Rattle.picture.proofs.evaluation.+hold_bytes.Given as goal

abbrev pub decreases-hold_bytes : goal.decreases-hold_bytes
decreases-hold_bytes l = length l.inputs.now
