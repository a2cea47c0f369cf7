use Rattle.lowering.proofs.Using.{iterations_are_done}
use Rattle.lowering.proofs.laws.iterations_are_done.Goals as goal

pub returns : goal.returns
returns c = iterations_are_done
