use Rattle.std.proofs.Common.{◌+◌, rules, arith}
use Rattle.picture.proofs.Tables.{pixel_at_place}
use Rattle.picture.proofs.lookups.pixel_in.Goals as goal

pub returns : goal.returns
returns c plane is =
    let there = pixel_at_place c.args.table.now plane c.args.x c.args.y c.subtract-column.result c.subtract-row.result (c.product.result + c.from.result) is
    (omega arith) (omega arith) (omega arith) (omega arith) c.subtract-column.ensures c.subtract-row.ensures c.if-column-table.false c.if-row-table.false
    (omega (arith, c.product.ensures.value, c.from.ensures)) in
    search (rules, there.0, there.1)
