use Rattle.std.proofs.Common.{◌≡◌}
use Rattle.loader.specs.Spelling.{numbers_in}
use Rattle.loader.proofs.readings.words_of.Given as goal

abbrev pub invariant-loop-index : goal.invariant-loop-index
invariant-loop-index l = l.words.items ≡ numbers_in l.index l.text
