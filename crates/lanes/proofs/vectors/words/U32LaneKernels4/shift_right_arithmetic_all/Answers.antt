use Rattle.std.proofs.Common.{lit<}
use Rattle.lanes.proofs.VectorLanes.{amounts_below, flipped_shifted, arithmetic}
use Rattle.lanes.proofs.vectors.words.U32LaneKernels4.shift_right_arithmetic_all.Goals as goal

pub overflow_shr-shifted : goal.overflow_shr-shifted
overflow_shr-shifted c = rw c.amounts.ensures (amounts_below 32 (lit< tt) c.flipped_below_zero.result c.args.b.now)

pub returns : goal.returns
returns c = rw (c.flipped_below_zero-2.ensures, c.flipped_below_zero.ensures, c.amounts.ensures)
    (flipped_shifted _ _ _ _ _ (arithmetic 32) c.args.a.now c.args.b.now c.fits-a)
