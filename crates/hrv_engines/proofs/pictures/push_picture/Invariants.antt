use Rattle.std.proofs.Common.{◌≡◌, ◌++◌}
use Rattle.std.specs.String.{string_bytes}
use Rattle.picture.specs.Reading.{heading}
use Rattle.hrv_engines.specs.Dump.{rows}
use Rattle.hrv_engines.proofs.pictures.push_picture.Given as goal

abbrev pub invariant-loop-y : goal.invariant-loop-y
invariant-loop-y l = string_bytes l.text ≡ string_bytes l.fn.text ++ (heading l.output.width l.output.height ++ rows l.machine l.output l.y)
