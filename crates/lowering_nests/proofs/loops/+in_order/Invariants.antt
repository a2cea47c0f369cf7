use Rattle.loop_ir.specs.Depths.{depth}
use Rattle.lowering_nests.proofs.loops.+in_order.Given as goal

abbrev pub decreases-in_order : goal.decreases-in_order
decreases-in_order l = depth l.body
