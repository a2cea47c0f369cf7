use Rattle.loop_ir.proofs.LoopLanes.{lanes_touch}
use Rattle.loop_ir.proofs.laws.lanes_touch_what_is_sound.Goals as goal

pub returns : goal.returns
returns c = lanes_touch
