use Rattle.picture.proofs.SideBySide.{no-pixels}
use Rattle.std.proofs.Common.{refl, arith}
use Rattle.picture.proofs.together.nothing.Goals as goal

pub returns : goal.returns
returns c plane = no-pixels plane _ c.new.ensures.items refl (omega arith)
