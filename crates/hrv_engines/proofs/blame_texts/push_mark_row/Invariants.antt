use Rattle.std.proofs.Common.{◌≡◌, ◌++◌}
use Rattle.std.specs.String.{string_bytes}
use Rattle.hrv_engines.proofs.MarkRows.{numbers_in}
use Rattle.hrv_engines.proofs.blame_texts.push_mark_row.Given as goal

abbrev pub invariant-loop-x : goal.invariant-loop-x
invariant-loop-x l = string_bytes l.text ≡ string_bytes l.fn.text ++ numbers_in l.marks l.output l.y l.x
