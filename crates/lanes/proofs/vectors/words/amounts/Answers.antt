use Rattle.std.proofs.lemmas.Nat.{and_mask}
use Rattle.lanes.proofs.VectorLanes.{with_each}
use Rattle.lanes.proofs.vectors.words.amounts.Goals as goal

pub returns : goal.returns
returns g c = with_each _ 31 _ (λ y. and_mask y 5) g.row.N c.args.b c.fits-b.0
