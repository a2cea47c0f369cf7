use Rattle.lanes.proofs.VectorLanes.{flips, top_32}
use Rattle.lanes.proofs.vectors.words.flipped_below_zero.Goals as goal

pub returns : goal.returns
returns g c = flips _ _ 2147483648 _ _ (λ x. top_32 _) g.row.N c.args.a c.args.b c.fits-a.0
