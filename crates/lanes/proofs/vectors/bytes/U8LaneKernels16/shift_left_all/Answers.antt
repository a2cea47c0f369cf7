use Rattle.std.proofs.Common.{lit<}
use Rattle.lanes.proofs.VectorLanes.{amounts_below}
use Rattle.lanes.proofs.vectors.bytes.U8LaneKernels16.shift_left_all.Goals as goal

pub overflow_shl-result : goal.overflow_shl-result
overflow_shl-result c = rw c.amounts.ensures (amounts_below 8 (lit< tt) c.args.a.now c.args.b.now)
