use Rattle.std.proofs.Common.{length}
use Rattle.lowering.proofs.pure_phases.+add_byte_inputs.Given as goal

-- proposed from what the function passes where it calls itself
abbrev pub decreases-add_byte_inputs : goal.decreases-add_byte_inputs
decreases-add_byte_inputs l = length l.inputs.now
