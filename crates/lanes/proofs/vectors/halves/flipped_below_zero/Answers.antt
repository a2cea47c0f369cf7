use Rattle.lanes.proofs.VectorLanes.{flips, top_16}
use Rattle.lanes.proofs.vectors.halves.flipped_below_zero.Goals as goal

pub returns : goal.returns
returns g c = flips _ _ 32768 _ _ (λ x. top_16 _) g.row.N c.args.a c.args.b c.fits-a.0
