use Rattle.picture.proofs.SpelledBack.{same_from_spelled}
use Rattle.picture.proofs.spellings.one_spelling.Goals as goal

pub returns : goal.returns
returns c = same_from_spelled
