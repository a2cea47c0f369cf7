use Rattle.assembler_mnemonics.proofs.Instructions.{means_is_word as word_of}
use Rattle.assembler_mnemonics.proofs.laws.means_is_word.Goals as goal

pub returns : goal.returns
returns c = word_of
