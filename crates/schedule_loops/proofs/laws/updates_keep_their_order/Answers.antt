use Rattle.std.proofs.Common.{Some, refl}
use Rattle.schedule_loops.specs.Stages.{is_slice_of}
use Rattle.schedule_loops.proofs.Rising.{slice_is}
use Rattle.schedule_loops.proofs.laws.updates_keep_their_order.Goals as goal

pub returns : goal.returns
returns c = λ func update extents stage is x y. slice_is func update extents stage is x y (is_slice_of func (Some update) extents x y) refl
