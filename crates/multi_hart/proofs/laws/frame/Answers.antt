use Rattle.multi_hart.proofs.Framing.{frame}
use Rattle.multi_hart.proofs.laws.frame.Goals as goal

pub returns : goal.returns
returns c = frame
