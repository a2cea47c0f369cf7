use Rattle.lanes.proofs.VectorLanes.{seconds_chosen, top_8}
use Rattle.lanes.proofs.vectors.bytes.U8LaneKernels16.max_unsigned_all.Goals as goal

pub returns : goal.returns
returns c = seconds_chosen _ _ _ (λ x y. top_8 _) c.args.a.now c.args.b.now
