use Rattle.turn_traces.proofs.Lines.{none-behind}
use Rattle.turn_traces.proofs.laws.none_behind.Goals as goal

pub returns : goal.returns
returns c = none-behind
