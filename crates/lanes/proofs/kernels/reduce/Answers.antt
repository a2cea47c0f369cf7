use Rattle.std.proofs.Common.{arith, add-one}
use Rattle.lanes.proofs.Elements.{reduce_active, reduce_other, reduce_all}
use Rattle.lanes.proofs.kernels.reduce.Goals as goal
use Rattle.lanes.proofs.kernels.reduce.Goals.{then-active-i, else-active-i}

pub loop-i-preserved : goal.loop-i-preserved
loop-i-preserved g c =
    elim c.if-active-i.branch [
      | then-active-i w ↦ rw (add-one, w.total-is) (reduce_active _ c.args.start c.loop-i.total _ c.loop-i.i c.args.active.now c.args.elements.now
          _ _ (omega arith) (omega arith) w.if-active-i.true w.operation-total.ensures c.loop-i.invariant)
      | else-active-i w ↦ rw (add-one, w.total-is) (reduce_other _ c.args.start c.loop-i.total c.loop-i.i c.args.active.now c.args.elements.now _ (omega arith)
          (omega arith) w.if-active-i.false c.loop-i.invariant)
    ]

pub returns : goal.returns
returns g c = reduce_all _ c.args.start c.loop-i.total c.loop-i.i c.args.active.now c.args.elements.now (omega arith) (omega arith) c.loop-i.invariant
