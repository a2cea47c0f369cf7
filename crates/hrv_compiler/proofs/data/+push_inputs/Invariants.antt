use Rattle.std.proofs.Common.{length}
use Rattle.hrv_compiler.proofs.data.+push_inputs.Given as goal

abbrev pub decreases-push_inputs : goal.decreases-push_inputs
decreases-push_inputs l = length l.inputs.now
