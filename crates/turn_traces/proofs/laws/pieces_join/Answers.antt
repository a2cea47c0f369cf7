use Rattle.turn_traces.proofs.Lines.{pieces-join}
use Rattle.turn_traces.proofs.laws.pieces_join.Goals as goal

pub returns : goal.returns
returns c = pieces-join
