use Rattle.std.proofs.Common.{arith, ◌∙◌}
use Rattle.lanes.proofs.MaskBits.{write_active, skip_other}
use Rattle.lanes.proofs.masks.write_mask_bits.Goals as goal
use Rattle.lanes.proofs.masks.write_mask_bits.Goals.{then-active-index, else-active-index}

pub loop-index-preserved : goal.loop-index-preserved
loop-index-preserved g c = elim c.if-active-index.branch [
  | then-active-index w ↦ write_active c.args.first c.loop-index.index c.args.active.now c.args.bits.now c.loop-index.register c.if-active-index.register
      _ _ _ (omega arith) (omega arith)
      w.if-active-index.true (w.register-is ∙ w.write_mask_bit.ensures) c.loop-index.invariant
  | else-active-index w ↦ skip_other c.args.first c.loop-index.index c.args.active.now c.args.bits.now c.loop-index.register c.if-active-index.register
      _ _ (omega arith) (omega arith)
      w.if-active-index.false w.register-is c.loop-index.invariant
]
