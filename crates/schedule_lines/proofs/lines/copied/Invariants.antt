use Rattle.std.proofs.Common.{◌≡◌, take}
use Rattle.schedule_lines.proofs.lines.copied.Given as goal

abbrev pub invariant-loop-word : goal.invariant-loop-word
invariant-loop-word l = l.copies ≡ take l.word-index l.words
