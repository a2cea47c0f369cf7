use Rattle.lowering.proofs.Using.{rising_is_an_order}
use Rattle.lowering.proofs.laws.rising_is_an_order.Goals as goal

pub returns : goal.returns
returns c = rising_is_an_order
