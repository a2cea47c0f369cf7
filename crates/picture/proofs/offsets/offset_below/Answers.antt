use Rattle.std.proofs.Common.{arith, rules}
use Rattle.picture.proofs.StoresApart.{below}
use Rattle.picture.proofs.offsets.offset_below.Goals as goal

pub returns-then-has_words : goal.returns-then-has_words
returns-then-has_words c =
    below c.args.table.now c.args.column c.args.line c.args.count _ c.subtract-left.result c.subtract-top.result (omega arith) (omega arith) (omega arith)
    (omega arith) (omega arith) (omega arith) c.subtract-left.ensures c.subtract-top.ensures (omega arith) (omega arith)
    (omega (arith, c.product.ensures.value))
    (λ at less. omega (arith, c.has_words.ensures (search rules) at (omega (arith, less)), c.len.ensures, c.args.table.now.pixels.ok))
