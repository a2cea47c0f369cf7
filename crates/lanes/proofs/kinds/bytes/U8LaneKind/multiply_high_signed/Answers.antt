use Rattle.std.proofs.Common.{FitsSigned, refl, lit<}
use Rattle.std.specs.Int.{w8, w16}
use Rattle.std.proofs.lemmas.Int.{to_z-of_z}
use Rattle.lanes.proofs.HighWords.{high_word}
use Rattle.lanes.proofs.kinds.bytes.U8LaneKind.multiply_high_signed.Goals as goal

-- the product fits twice the width, and its high half the width
pub returns : goal.returns
returns c =
    let first : FitsSigned w8 c.cast_signed.result = record { sfits = c.cast_signed.type_inv } in
    let second : FitsSigned w8 c.cast_signed-2.result = record { sfits = c.cast_signed-2.type_inv } in
    let first_is = to_z-of_z w8 c.cast_signed.result first in
    let second_is = to_z-of_z w8 c.cast_signed-2.result second in
    let high = high_word w8 w16 c.cast_signed.result c.cast_signed-2.result refl (lit< tt) first second in
    cc (high, first_is, second_is, c.cast_signed.ensures, c.cast_signed-2.ensures, c.from.ensures, c.from-2.ensures, c.cast_unsigned.ensures)
