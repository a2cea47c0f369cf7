use Rattle.multi_hart.proofs.Framing.{commute}
use Rattle.multi_hart.proofs.laws.commute.Goals as goal

pub returns : goal.returns
returns c = commute
