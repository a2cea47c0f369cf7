use Rattle.multi_hart_laws.proofs.Rules.{says-word}
use Rattle.multi_hart_laws.proofs.laws.words_stand.Goals as goal

pub returns : goal.returns
returns c = says-word
