use Rattle.loop_ir.proofs.Stored.{stored_stays_stored}
use Rattle.loop_ir.proofs.laws.stored_stays_stored.Goals as goal

pub returns : goal.returns
returns c = stored_stays_stored
