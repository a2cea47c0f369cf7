use Rattle.std.proofs.Common.{rules, arith, refl}
use Rattle.picture.proofs.Along.{table-row}
use Rattle.picture.proofs.row_reads.table_window.Goals as goal

pub returns-then-row-table : goal.returns-then-row-table
returns-then-row-table c plane is = c.nothing.ensures _

pub returns : goal.returns
returns c plane is =
    table-row plane c.args.table.now c.args.y c.subtract-row.result c.product-from.result _ is (omega arith) (omega arith) (omega arith) (omega arith)
    c.subtract-row.ensures
    (omega arith) c.product-from.ensures.value refl (search rules)
