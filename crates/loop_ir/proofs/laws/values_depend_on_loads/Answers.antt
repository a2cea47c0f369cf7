use Rattle.loop_ir.proofs.Loads.{values_depend_on_loads}
use Rattle.loop_ir.proofs.laws.values_depend_on_loads.Goals as goal

pub returns : goal.returns
returns c = values_depend_on_loads
