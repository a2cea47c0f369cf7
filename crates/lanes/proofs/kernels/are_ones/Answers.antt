use Rattle.std.proofs.Common.{◌==◌, arith, add-one, ap}
use Rattle.std.proofs.Math.ListN.{length-set}
use Rattle.lanes.proofs.VectorLanes.{ones_more, ones_all}
use Rattle.lanes.proofs.kernels.are_ones.Goals as goal

pub loop-i-preserved : goal.loop-i-preserved
loop-i-preserved g c = record {
  count = simp length-set c.loop-i.invariant.count;
  tested = rw add-one (ones_more _ c.loop-i.i c.loop-i.results c.args.elements.now _ _ (omega arith) (omega arith) (ap (λ n. n == 1) c.to_u32.ensures.value)
      c.loop-i.invariant.tested);
}

pub returns : goal.returns
returns g c = ones_all _ c.loop-i.i c.loop-i.results c.args.elements.now (omega arith) (omega arith) c.loop-i.invariant.tested
