use Rattle.bounds_laws.proofs.Least.{input_boxes_are_least, inputs_without_boxes}
use Rattle.bounds_laws.proofs.box_laws.input_boxes_are_least.Goals as goal

pub returns-clause-boxes : goal.returns-clause-boxes
returns-clause-boxes c = input_boxes_are_least

pub returns-clause-none : goal.returns-clause-none
returns-clause-none c = inputs_without_boxes
