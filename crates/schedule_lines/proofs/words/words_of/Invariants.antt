use Rattle.std.proofs.Common.{◌≡◌, ◌++◌, length}
use Rattle.schedule_lines.specs.Lines.{words_of, text_of}
use Rattle.schedule_lines.proofs.words.words_of.Given as goal

abbrev pub invariant-words : goal.invariant-words
invariant-words l = l.words.items ++ words_of l.rest ≡ words_of (text_of l.line)

abbrev pub decreases-words : goal.decreases-words
decreases-words l = length l.rest
