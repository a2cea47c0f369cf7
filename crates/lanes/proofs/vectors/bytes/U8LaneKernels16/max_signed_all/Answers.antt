use Rattle.std.proofs.Common.{◌∙◌}
use Rattle.lanes.proofs.VectorLanes.{greater_chosen, in_order_8, top_8}
use Rattle.lanes.proofs.vectors.bytes.U8LaneKernels16.max_signed_all.Goals as goal

pub returns : goal.returns
returns c = rw (c.ordered.ensures, c.ordered-2.ensures)
    (greater_chosen _ _ _ _ _ (λ x y p q. top_8 _ ∙ in_order_8 x y p q) c.args.a.now c.args.b.now c.fits-a c.fits-b)
