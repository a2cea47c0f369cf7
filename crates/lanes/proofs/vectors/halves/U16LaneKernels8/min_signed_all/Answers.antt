use Rattle.std.proofs.Common.{◌∙◌}
use Rattle.lanes.proofs.VectorLanes.{lesser_chosen, in_order_16, top_16}
use Rattle.lanes.proofs.vectors.halves.U16LaneKernels8.min_signed_all.Goals as goal

pub returns : goal.returns
returns c = rw (c.ordered.ensures, c.ordered-2.ensures)
    (lesser_chosen _ _ _ _ _ (λ x y p q. top_16 _ ∙ in_order_16 x y p q) c.args.a.now c.args.b.now c.fits-a c.fits-b)
