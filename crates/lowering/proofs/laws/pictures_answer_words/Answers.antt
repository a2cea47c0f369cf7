use Rattle.lowering.proofs.Using.{pictures_answer_words}
use Rattle.lowering.proofs.laws.pictures_answer_words.Goals as goal

pub returns : goal.returns
returns c = pictures_answer_words
