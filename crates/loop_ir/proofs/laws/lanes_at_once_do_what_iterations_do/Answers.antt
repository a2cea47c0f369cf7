use Rattle.loop_ir.proofs.AtOnce.{lanes_at_once}
use Rattle.loop_ir.proofs.laws.lanes_at_once_do_what_iterations_do.Goals as goal

pub returns : goal.returns
returns c = lanes_at_once
