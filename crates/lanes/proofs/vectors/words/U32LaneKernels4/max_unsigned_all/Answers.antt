use Rattle.lanes.proofs.VectorLanes.{seconds_chosen, top_32}
use Rattle.lanes.proofs.vectors.words.U32LaneKernels4.max_unsigned_all.Goals as goal

pub returns : goal.returns
returns c = seconds_chosen _ _ _ (λ x y. top_32 _) c.args.a.now c.args.b.now
