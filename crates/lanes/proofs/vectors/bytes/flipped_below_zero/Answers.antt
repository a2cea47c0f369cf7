use Rattle.lanes.proofs.VectorLanes.{flips, top_8}
use Rattle.lanes.proofs.vectors.bytes.flipped_below_zero.Goals as goal

pub returns : goal.returns
returns g c = flips _ _ 128 _ _ (λ x. top_8 _) g.row.N c.args.a c.args.b c.fits-a.0
