use Rattle.loader.proofs.Laws.{same_from_spelled}
use Rattle.loader.proofs.spellings.one_spelling.Goals as goal

pub returns : goal.returns
returns c = same_from_spelled
