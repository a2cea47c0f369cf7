use Rattle.bounds_laws.proofs.Least.{func_boxes_are_least}
use Rattle.bounds_laws.proofs.box_laws.func_boxes_are_least.Goals as goal

pub returns : goal.returns
returns c = func_boxes_are_least
