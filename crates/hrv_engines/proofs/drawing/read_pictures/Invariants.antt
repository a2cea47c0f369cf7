use Rattle.std.proofs.Common.{◌≡◌, length}
use Rattle.std.specs.Prelude.{map}
use Rattle.std.specs.String.{string_bytes}
use Rattle.hrv_engines.specs.Drawing.{pictures_of}
use Rattle.hrv_engines.proofs.Drawings.{with_front}
use Rattle.hrv_engines.proofs.drawing.read_pictures.Given as goal

-- the pictures so far, and those of the texts that are left, are those of all
abbrev pub invariant-loop-rest : goal.invariant-loop-rest
invariant-loop-rest l = with_front l.pictures.items (pictures_of (map string_bytes l.rest)) ≡ pictures_of (map string_bytes l.fn.texts)

abbrev pub decreases-loop-rest : goal.decreases-loop-rest
decreases-loop-rest l = length l.rest
