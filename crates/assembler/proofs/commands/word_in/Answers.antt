use Rattle.std.proofs.Common.{refl}
use Rattle.assembler.proofs.commands.word_in.Goals as goal

pub returns-in-Text : goal.returns-in-Text
returns-in-Text c = rw c.in-Text.is (_, refl, (refl, tt))
