use Rattle.std.proofs.Common.{◌≡◌, ◌++◌}
use Rattle.std.specs.String.{string_bytes}
use Rattle.hrv_engines.proofs.Printing.{numbers}
use Rattle.hrv_engines.proofs.pictures.push_row.Given as goal

abbrev pub invariant-loop-x : goal.invariant-loop-x
invariant-loop-x l = string_bytes l.text ≡ string_bytes l.fn.text ++ numbers l.machine l.output l.y l.x
