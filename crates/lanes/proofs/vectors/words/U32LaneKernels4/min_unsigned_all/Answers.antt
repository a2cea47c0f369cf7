use Rattle.lanes.proofs.VectorLanes.{firsts_chosen, lesser_is_one, top_32}
use Rattle.lanes.proofs.vectors.words.U32LaneKernels4.min_unsigned_all.Goals as goal

pub returns : goal.returns
returns c = firsts_chosen _ _ _ (λ x y. top_32 _) lesser_is_one c.args.a.now c.args.b.now
