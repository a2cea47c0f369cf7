use Rattle.std.proofs.Common.{arith, add-one}
use Rattle.std.proofs.Math.ListN.{length-set}
use Rattle.lanes.proofs.Elements.{EachPair-more, EachPair-all}
use Rattle.lanes.proofs.kernels.each_pair.Goals as goal

pub loop-i-preserved : goal.loop-i-preserved
loop-i-preserved g c = record {
  count = simp length-set c.loop-i.invariant.count;
  each = rw add-one (EachPair-more _ c.loop-i.i c.args.first.now c.args.second.now c.loop-i.results _ _ _ (omega arith) (omega arith) (omega arith)
      c.operation.ensures c.loop-i.invariant.each);
}

pub returns : goal.returns
returns g c = EachPair-all _ c.loop-i.i c.args.first.now c.args.second.now c.loop-i.results (omega arith) (omega arith) (omega arith) c.loop-i.invariant.each
