use Rattle.bounds_laws.proofs.Flat.{one_row_boxes}
use Rattle.bounds_laws.proofs.laws.one_row_boxes.Goals as goal

pub returns : goal.returns
returns c = one_row_boxes
