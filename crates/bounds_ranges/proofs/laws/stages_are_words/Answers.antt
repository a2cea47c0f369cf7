use Rattle.bounds_ranges.proofs.PixelWords.{stages_are_words}
use Rattle.bounds_ranges.proofs.laws.stages_are_words.Goals as goal

pub returns : goal.returns
returns c = stages_are_words
