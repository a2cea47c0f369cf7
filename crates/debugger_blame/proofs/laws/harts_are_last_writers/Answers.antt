use Rattle.debugger_blame.proofs.LastTurns.{harts_of_last}
use Rattle.debugger_blame.proofs.laws.harts_are_last_writers.Goals as goal

pub returns : goal.returns
returns c = harts_of_last
