use Rattle.lowering.proofs.AnyOrder.{tasks_in_any_order}
use Rattle.lowering.proofs.laws.tasks_in_any_order.Goals as goal

pub returns : goal.returns
returns c = tasks_in_any_order
