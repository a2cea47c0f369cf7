use Rattle.std.proofs.Common.{arith, add-one}
use Rattle.std.proofs.Math.ListN.{length-set}
use Rattle.lanes.proofs.VectorLanes.{flags_more_here, flags_more_elsewhere, flags_all}
use Rattle.lanes.proofs.kernels.flags.Goals as goal
use Rattle.lanes.proofs.kernels.flags.Goals.{then-chosen-i, else-chosen-i}

pub loop-i-preserved : goal.loop-i-preserved
loop-i-preserved g c = record {
  count = simp length-set c.loop-i.invariant.count;
  so_far = elim c.if-chosen-i.branch [
    | then-chosen-i w ↦ rw add-one (flags_more_here _ _ c.loop-i.i c.loop-i.results c.args.chosen.now _ _ (omega arith) (omega arith) w.if-chosen-i.true
        w.results-is c.loop-i.invariant.so_far)
    | else-chosen-i w ↦ rw add-one (flags_more_elsewhere _ _ c.loop-i.i c.loop-i.results c.args.chosen.now _ _ (omega arith) (omega arith) w.if-chosen-i.false
        w.results-is c.loop-i.invariant.so_far)
  ];
}

pub returns : goal.returns
returns g c = flags_all _ _ c.loop-i.i c.loop-i.results c.args.chosen.now (omega arith) (omega arith) c.loop-i.invariant.so_far
