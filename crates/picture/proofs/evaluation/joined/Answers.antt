use Rattle.std.proofs.Common.{rules, arith}
use Rattle.picture.proofs.Joined.{one-more-row, row-is}
use Rattle.picture.proofs.evaluation.joined.Goals as goal

pub loop-row-preserved : goal.loop-row-preserved
loop-row-preserved c plane left top width all =
    one-more-row plane left top width c.loop-row.row-index c.loop-row.pixels.items c.row-item.result.items _ (c.loop-row.invariant plane left top width all)
    (all.each c.loop-row.row-index c.row-item.result (row-is c.args.rows.now c.loop-row.row-index c.row-item.result c.row-item.is (omega arith)))
    (search rules)
