use Rattle.multi_hart.proofs.Framing.{frame-within}
use Rattle.multi_hart.proofs.laws.frame_within.Goals as goal

pub returns : goal.returns
returns c = frame-within
