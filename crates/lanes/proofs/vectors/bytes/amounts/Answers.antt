use Rattle.std.proofs.lemmas.Nat.{and_mask}
use Rattle.lanes.proofs.VectorLanes.{with_each}
use Rattle.lanes.proofs.vectors.bytes.amounts.Goals as goal

pub returns : goal.returns
returns g c = with_each _ 7 _ (λ y. and_mask y 3) g.row.N c.args.b c.fits-b.0
