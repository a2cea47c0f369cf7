use Rattle.lanes.proofs.VectorLanes.{seconds_chosen, top_16}
use Rattle.lanes.proofs.vectors.halves.U16LaneKernels8.max_unsigned_all.Goals as goal

pub returns : goal.returns
returns c = seconds_chosen _ _ _ (λ x y. top_16 _) c.args.a.now c.args.b.now
