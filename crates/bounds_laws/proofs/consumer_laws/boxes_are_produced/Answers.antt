use Rattle.bounds_laws.proofs.BoxesProduced.{boxes_are_produced}
use Rattle.bounds_laws.proofs.consumer_laws.boxes_are_produced.Goals as goal

pub returns : goal.returns
returns c = boxes_are_produced
