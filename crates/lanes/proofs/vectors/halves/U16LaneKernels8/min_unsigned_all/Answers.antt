use Rattle.lanes.proofs.VectorLanes.{firsts_chosen, lesser_is_one, top_16}
use Rattle.lanes.proofs.vectors.halves.U16LaneKernels8.min_unsigned_all.Goals as goal

pub returns : goal.returns
returns c = firsts_chosen _ _ _ (λ x y. top_16 _) lesser_is_one c.args.a.now c.args.b.now
