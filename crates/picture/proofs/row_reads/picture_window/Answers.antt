use Rattle.std.proofs.Common.{rules, arith, refl}
use Rattle.picture.proofs.Along.{picture-row}
use Rattle.picture.proofs.row_reads.picture_window.Goals as goal

pub returns-then-y-height : goal.returns-then-y-height
returns-then-y-height c = c.nothing.ensures _

pub returns : goal.returns
returns c = picture-row c.args.picture.now c.args.y _ (omega arith) (omega arith) refl (search rules)
