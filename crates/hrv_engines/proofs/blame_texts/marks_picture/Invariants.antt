use Rattle.std.proofs.Common.{◌≡◌, ◌++◌}
use Rattle.std.specs.String.{string_bytes}
use Rattle.picture.specs.Reading.{heading}
use Rattle.hrv_engines.specs.inner.MarkRows.{rows_in}
use Rattle.hrv_engines.proofs.blame_texts.marks_picture.Given as goal

abbrev pub invariant-loop-y : goal.invariant-loop-y
invariant-loop-y l = string_bytes l.text ≡ heading l.output.width l.output.height ++ rows_in l.marks l.output l.y
