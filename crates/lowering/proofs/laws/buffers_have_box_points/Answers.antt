use Rattle.lowering.proofs.Using.{buffers_have_box_points}
use Rattle.lowering.proofs.laws.buffers_have_box_points.Goals as goal

pub returns : goal.returns
returns c = buffers_have_box_points
