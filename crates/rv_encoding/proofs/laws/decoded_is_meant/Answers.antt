use Rattle.rv_encoding.proofs.Meanings.{sound, complete}
use Rattle.rv_encoding.proofs.laws.decoded_is_meant.Goals as goal

pub returns : goal.returns
returns c = λ word insn small. (sound word insn small, complete word insn small)
