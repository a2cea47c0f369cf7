use Rattle.loop_ir.proofs.Loads.{values_are_seen}
use Rattle.loop_ir.proofs.laws.values_are_seen.Goals as goal

pub returns : goal.returns
returns c = values_are_seen
