use Rattle.lanes.proofs.VectorLanes.{tests_from_lanes, in_order_32}
use Rattle.lanes.proofs.vectors.words.U32LaneKernels4.less_signed_all.Goals as goal

pub returns : goal.returns
returns c = rw (c.less.ensures, c.ordered.ensures, c.ordered-2.ensures)
    (tests_from_lanes _ _ _ _ in_order_32 c.args.a.now c.args.b.now c.fits-a c.fits-b)
