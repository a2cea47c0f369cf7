-- Frames that are written, read again.
use Rattle.std.proofs.Common.{◌≡◌, ℕ, ◌/◌, ◌%◌, ◌<◌, ◌≤◌, nat_lt, false, List, [], ◌∷◌, ◌++◌, length, ap, ◌∙◌, append_assoc, arith}
use Rattle.gdb_packets.specs.Packets.{Place, Reading, Packet, check_sum, digit, escaped, frame, meaning, outside, readings, spelled}
use Rattle.gdb_packets.proofs.DigitLaws.{spells, sum_spelled}
use Rattle.gdb_packets.proofs.EscapeLaws.{escaped_is_body, unescaped_again}
use Rattle.gdb_packets.proofs.FrameLaws.{frame_read}

-- the high and the low digit of the sum of a payload's body
abbrev high : List ℕ → ℕ
high payload = digit (check_sum (escaped payload) / 16)

abbrev low : List ℕ → ℕ
low payload = digit (check_sum (escaped payload) % 16)

laid_out : (payload rest : List ℕ) → frame payload ++ rest ≡ 36 ∷ escaped payload ++ 35 ∷ high payload ∷ low payload ∷ rest
unfolding frame
laid_out payload rest = ap (λ (bytes : List ℕ). 36 ∷ bytes) (append_assoc (escaped payload) (35 ∷ high payload ∷ low payload ∷ []) rest)

means : (limit : ℕ) (payload : List ℕ) → length (escaped payload) ≤ limit → meaning limit (escaped payload) (high payload) (low payload) ≡ Packet payload
means limit payload short =
    let small : check_sum (escaped payload) < 256 = omega arith in
    let fits : nat_lt limit (length (escaped payload)) ≡ false = grind (arith, short) in
    rw (sum_spelled (check_sum (escaped payload)) small, fits) (ap spelled (unescaped_again payload))

pub written_read : (limit : ℕ) (place : Place) (payload rest : List ℕ) → length (escaped payload) ≤ limit
    → readings limit place (frame payload ++ rest) ≡ Packet payload ∷ readings limit outside rest
written_read limit place payload rest short =
    ap (readings limit place) (laid_out payload rest)
    ∙ frame_read limit place (escaped payload) (high payload) (low payload) rest (escaped_is_body payload)
    (spells (check_sum (escaped payload) / 16) (omega arith)).other (spells (check_sum (escaped payload) % 16) (omega arith)).other
    ∙ ap (λ (one : Reading). one ∷ readings limit outside rest) (means limit payload short)
