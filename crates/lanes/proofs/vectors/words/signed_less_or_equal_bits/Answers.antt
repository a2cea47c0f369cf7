use Rattle.std.proofs.Common.{◌∙◌, ap, not}
use Rattle.std.specs.Simd.Lanes.{mask_l}
use Rattle.lanes.proofs.VectorLanes.{tests_in_order, in_order_32}
use Rattle.lanes.proofs.vectors.words.signed_less_or_equal_bits.Goals as goal

pub returns : goal.returns
returns c = (rw (c.ordered.ensures, c.ordered-2.ensures) at c.less_or_equal_bits.ensures)
    ∙ ap mask_l (tests_in_order _ _ _ _ (λ x y p q. ap not (in_order_32 y x q p)) c.args.a.now c.args.b.now c.fits-a c.fits-b)
