use Rattle.std.proofs.Common.{lit<}
use Rattle.lanes.proofs.VectorLanes.{amounts_below}
use Rattle.lanes.proofs.vectors.words.U32LaneKernels4.shift_right_logical_all.Goals as goal

pub overflow_shr-result : goal.overflow_shr-result
overflow_shr-result c = rw c.amounts.ensures (amounts_below 32 (lit< tt) c.args.a.now c.args.b.now)
