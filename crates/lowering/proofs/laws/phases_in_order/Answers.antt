use Rattle.lowering.proofs.InOrder.{phases_in_order}
use Rattle.lowering.proofs.laws.phases_in_order.Goals as goal

pub returns : goal.returns
returns c = phases_in_order
