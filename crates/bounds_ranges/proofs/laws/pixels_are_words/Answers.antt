use Rattle.bounds_ranges.proofs.PixelWords.{pixels_are_words}
use Rattle.bounds_ranges.proofs.laws.pixels_are_words.Goals as goal

pub returns : goal.returns
returns c = pixels_are_words
