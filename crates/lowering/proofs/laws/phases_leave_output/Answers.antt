use Rattle.lowering.proofs.Lowered.{phases_leave_output}
use Rattle.lowering.proofs.laws.phases_leave_output.Goals as goal

pub returns : goal.returns
returns c = phases_leave_output
