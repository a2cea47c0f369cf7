use Rattle.bounds_laws.proofs.Reached.{boxes_are_of_reached_funcs}
use Rattle.bounds_laws.proofs.box_laws.boxes_are_of_reached_funcs.Goals as goal

pub returns : goal.returns
returns c = boxes_are_of_reached_funcs
