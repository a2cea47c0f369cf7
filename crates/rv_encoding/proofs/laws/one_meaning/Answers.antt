use Rattle.rv_encoding.proofs.Meanings.{one_meaning}
use Rattle.rv_encoding.proofs.laws.one_meaning.Goals as goal

pub returns : goal.returns
returns c = one_meaning
