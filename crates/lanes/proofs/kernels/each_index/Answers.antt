use Rattle.std.proofs.Common.{arith, add-one}
use Rattle.std.proofs.Math.ListN.{length-set}
use Rattle.lanes.proofs.Elements.{EachFrom-more, EachFrom-all}
use Rattle.lanes.proofs.kernels.each_index.Goals as goal

pub loop-i-preserved : goal.loop-i-preserved
loop-i-preserved g c = record {
  count = simp length-set c.loop-i.invariant.count;
  each = rw add-one (EachFrom-more _ 0 c.loop-i.i c.loop-i.i c.loop-i.results _ (omega arith) (omega arith) (c.loop-i-test.true, c.operation.ensures)
      c.loop-i.invariant.each);
}

pub returns : goal.returns
returns g c = record {
  each = EachFrom-all _ 0 c.loop-i.i c.loop-i.results (omega arith) c.loop-i.invariant.each;
  count = c.loop-i.invariant.count;
}
