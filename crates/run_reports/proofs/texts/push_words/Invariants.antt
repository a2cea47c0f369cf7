use Rattle.std.proofs.Common.{◌≡◌, ◌++◌, length}
use Rattle.run_reports.specs.ProfileText.{word_lines}
use Rattle.run_reports.specs.inner.Counting.{counts_in}
use Rattle.run_reports.proofs.texts.push_words.Given as goal

abbrev pub invariant-loop-place : goal.invariant-loop-place
invariant-loop-place l = l.text.items ≡ l.fn.text.items ++ word_lines (counts_in l.profiles) (length l.profiles) l.words l.place
