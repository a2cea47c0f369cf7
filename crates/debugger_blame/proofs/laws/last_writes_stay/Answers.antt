use Rattle.debugger_blame.proofs.LastLeft.{words-stay}
use Rattle.debugger_blame.proofs.laws.last_writes_stay.Goals as goal

pub returns : goal.returns
returns c = words-stay
