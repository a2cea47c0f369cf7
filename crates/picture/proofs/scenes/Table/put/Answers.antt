use Rattle.std.proofs.Common.{◌+◌, ◌<◌, length, arith}
use Rattle.std.proofs.lemmas.List.{length-set, get_or-set_same, get_or-set_other}
use Rattle.picture.proofs.SideBySide.{put-nothing, put-pixel}
use Rattle.picture.proofs.scenes.Table.put.Goals as goal
use Rattle.picture.proofs.scenes.Table.put.Goals.{then-column-self-via-then-column-self, then-column-self-via-else-column-self+then-row-self}

pub returns-then-column-self-clause-table : goal.returns-then-column-self-clause-table
returns-then-column-self-clause-table c = λ plane is.
    let own = c.args.self.now in
    let outside : c.subtract-column.result < own.width → c.subtract-row.result < own.height → ⊥ = λ wide high.
    elim c.then-column-self.branch [
      | then-column-self-via-then-column-self w ↦ omega (arith, w.if-column-self.true, wide)
      | then-column-self-via-else-column-self+then-row-self w ↦ omega (arith, w.if-row-self.true, high)
    ] in
    put-nothing plane own c.args.x c.args.y c.args.pixel c.subtract-column.result c.subtract-row.result is (omega arith) (omega arith) (omega arith)
    (omega arith)
    c.subtract-column.ensures c.subtract-row.ensures outside

pub returns-then-at-len-clause-table : goal.returns-then-at-len-clause-table
returns-then-at-len-clause-table c = λ plane is.
    let own = c.args.self.now in
    let at = c.product.result + c.from.result in
    let within : at < length own.pixels.items = omega (arith, c.if-at-len.true, c.len.ensures, own.pixels.ok) in
    record {
      are = put-pixel plane own.left own.top own.width own.pitch own.height own.pixels.items _ c.args.x c.args.y c.args.pixel c.subtract-column.result
          c.subtract-row.result at is.are (omega arith) (omega arith) (omega arith)
          (omega arith) (omega arith) (omega arith)
          c.subtract-column.ensures c.subtract-row.ensures c.if-column-self.false (omega (arith, c.product.ensures.value, c.from.ensures))
          (length-set own.pixels.items at c.args.pixel) (get_or-set_same own.pixels.items at c.args.pixel 0 within)
          (λ k other. get_or-set_other own.pixels.items at k c.args.pixel 0 other);
    }
