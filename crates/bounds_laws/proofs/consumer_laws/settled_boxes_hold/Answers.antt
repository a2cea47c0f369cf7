use Rattle.bounds_laws.proofs.Settled.{settled_boxes_hold}
use Rattle.bounds_laws.proofs.consumer_laws.settled_boxes_hold.Goals as goal

pub returns : goal.returns
returns c = settled_boxes_hold
