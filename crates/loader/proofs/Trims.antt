-- Bytes without the zeros at their end, and with them again.
use Rattle.std.proofs.Common.{◌≡◌, ℕ, zero, suc, ◌+◌, ◌-◌, ◌<◌, ◌≤◌, Bool, true, false, cond, List, [], ◌∷◌, ◌++◌, length, take, drop, get_or, refl, sym, ap}
use Rattle.std.proofs.Common.{◌∙◌}
use Rattle.std.proofs.Common.{arith, inl, inr}
use Rattle.std.specs.Prelude.{◌==◌, replicate, slice_get}
use Rattle.std.proofs.lemmas.Bool.{cases_Bool, ne_eqb, eqb-true, cond-true, cond-false}
use Rattle.std.specs.Int.{w64, from_le_bytes}
use Rattle.std.proofs.lemmas.List.{append-nil, take_more, length-append, length-drop, length-replicate, take-append-drop}
use Rattle.std.proofs.lemmas.Nat.{le_bytes_8}
use Rattle.loader.specs.declared.formats.Format.{Format}
use Rattle.loader.specs.declared.formats.Format.TheVariants.{Hrv1, Hrv2}
use Rattle.loader.proofs.Numbers.{IsBytes, IsBytes-drop}
use Rattle.loader.specs.Spelling.{in_front, trimmed, stored, padded, is_zero, stores_zero, byte_count, stored_count}

-- ---- the zeros are put back

-- how many zeros were at the end
abbrev lost : List ℕ → ℕ
lost bytes = length bytes - length (trimmed bytes)

length-in_front : (byte : ℕ) (bytes : List ℕ) → length (in_front byte bytes) ≤ suc (length bytes)
length-in_front byte (next ∷ bytes) = omega arith
length-in_front byte [] = by_test (byte == 0) where
  by_test : (b : Bool) → length (cond b [] (byte ∷ [])) ≤ 1
  by_test true = omega arith
  by_test false = omega arith

pub length-trimmed : (bytes : List ℕ) → length (trimmed bytes) ≤ length bytes
length-trimmed [] = omega arith
length-trimmed (byte ∷ bytes) = omega (arith, length-in_front byte (trimmed bytes), length-trimmed bytes)

front_padded : (byte count : ℕ) (kept whole : List ℕ) → kept ++ replicate (count - length kept) 0 ≡ whole → length kept ≤ count
    → in_front byte kept ++ replicate (suc count - length (in_front byte kept)) 0 ≡ byte ∷ whole
front_padded byte count (next ∷ kept) whole e le =
    let same : suc count - suc (suc (length kept)) ≡ count - suc (length kept) = omega arith in
    ap (λ (n : ℕ). byte ∷ next ∷ kept ++ replicate n 0) same ∙ ap (λ (bytes : List ℕ). byte ∷ bytes) e
front_padded byte count [] whole e le =
    let rest : count - 0 ≡ count = omega arith in
    let zeros : replicate count 0 ≡ whole = ap (λ (n : ℕ). replicate n 0) (sym rest) ∙ e in
    elim (cases_Bool (byte == 0)) [
      | inl none ↦
          let gone = cond-true (byte == 0) [] (byte ∷ []) none in
          let all : suc count - 0 ≡ suc count = omega arith in
          let byte_is : 0 ≡ byte = sym (eqb-true byte 0 none) in
          ap (λ (front : List ℕ). front ++ replicate (suc count - length front) 0) gone
          ∙ ap (λ (n : ℕ). replicate n 0) all
          ∙ ap (λ (b : ℕ). b ∷ replicate count 0) byte_is
          ∙ ap (λ (bytes : List ℕ). byte ∷ bytes) zeros
      | inr some ↦
          let one = cond-false (byte == 0) [] (byte ∷ []) some in
          let all : suc count - 1 ≡ count = omega arith in
          ap (λ (front : List ℕ). front ++ replicate (suc count - length front) 0) one
          ∙ ap (λ (n : ℕ). byte ∷ replicate n 0) all
          ∙ ap (λ (bytes : List ℕ). byte ∷ bytes) zeros
    ]

pub trimmed_padded : (bytes : List ℕ) → padded (length bytes) (trimmed bytes) ≡ bytes
trimmed_padded [] = refl
trimmed_padded (byte ∷ bytes) = front_padded byte (length bytes) (trimmed bytes) bytes (trimmed_padded bytes) (length-trimmed bytes)

-- ---- what ends in no zero is left as it is

trimmed_zeros : (count : ℕ) → trimmed (replicate count 0) ≡ []
trimmed_zeros zero = refl
trimmed_zeros (suc count) = ap (in_front 0) (trimmed_zeros count)

abbrev ends_in_zero : List ℕ → Bool
ends_in_zero bytes = is_zero (slice_get bytes (length bytes - 1))

-- the end of bytes is that of those after the first
later_end : (byte next : ℕ) (bytes : List ℕ) → ends_in_zero (byte ∷ next ∷ bytes) ≡ ends_in_zero (next ∷ bytes)
later_end byte next bytes =
    let place : length (byte ∷ next ∷ bytes) - 1 ≡ suc (length (next ∷ bytes) - 1) = omega arith in
    ap (λ (n : ℕ). is_zero (slice_get (byte ∷ next ∷ bytes) n)) place

pub padded_trimmed : (bytes : List ℕ) (count : ℕ) → ends_in_zero bytes ≡ false → trimmed (bytes ++ replicate count 0) ≡ bytes
padded_trimmed [] count ends = trimmed_zeros count
padded_trimmed (byte ∷ []) count ends = ap (in_front byte) (trimmed_zeros count) ∙ cond-false (byte == 0) [] (byte ∷ []) ends
padded_trimmed (byte ∷ next ∷ bytes) count ends = ap (in_front byte) (padded_trimmed (next ∷ bytes) count (sym (later_end byte next bytes) ∙ ends))

-- and it has no zero at its end
front_ends : (byte : ℕ) (bytes : List ℕ) → ends_in_zero bytes ≡ false → ends_in_zero (in_front byte bytes) ≡ false
front_ends byte (next ∷ bytes) ends = later_end byte next bytes ∙ ends
front_ends byte [] ends =
    elim (cases_Bool (byte == 0)) [
      | inl none ↦ ap ends_in_zero (cond-true (byte == 0) [] (byte ∷ []) none)
      | inr some ↦ ap ends_in_zero (cond-false (byte == 0) [] (byte ∷ []) some) ∙ some
    ]

trimmed_ends : (bytes : List ℕ) → ends_in_zero (trimmed bytes) ≡ false
trimmed_ends [] = refl
trimmed_ends (byte ∷ bytes) = front_ends byte (trimmed bytes) (trimmed_ends bytes)

-- ---- by the format

pub stored_padded : (format : Format) (bytes : List ℕ) → padded (length bytes) (stored format bytes) ≡ bytes
stored_padded Hrv1 bytes =
    let none : length bytes - length bytes ≡ 0 = omega arith in
    ap (λ (count : ℕ). bytes ++ replicate count 0) none ∙ append-nil bytes
stored_padded Hrv2 bytes = trimmed_padded bytes

pub length-stored : (format : Format) (bytes : List ℕ) → length (stored format bytes) ≤ length bytes
length-stored Hrv1 bytes = omega arith
length-stored Hrv2 bytes = length-trimmed bytes

pub stored_ends : (format : Format) (bytes : List ℕ) → stores_zero format (stored format bytes) ≡ false
stored_ends Hrv1 bytes = refl
stored_ends Hrv2 bytes = trimmed_ends bytes

pub padded_stored : (format : Format) (bytes front : List ℕ) → length front ≡ stored_count format bytes → stores_zero format front ≡ false
    → stored format (padded (byte_count bytes) front) ≡ front
padded_stored Hrv1 bytes front len ends =
    let none : byte_count bytes - length front ≡ 0 = omega (arith, len) in
    ap (λ (count : ℕ). front ++ replicate count 0) none ∙ append-nil front
padded_stored Hrv2 bytes front len ends = padded_trimmed front (byte_count bytes - length front) ends

pub length-padded : (count : ℕ) (bytes : List ℕ) → length bytes ≤ count → length (padded count bytes) ≡ count
length-padded count bytes le = omega (arith, length-append bytes (replicate (count - length bytes) 0), length-replicate {A = ℕ} (count - length bytes) 0)

-- ---- a scan from the end

trimmed_more : (bytes : List ℕ) → trimmed (bytes ++ 0 ∷ []) ≡ trimmed bytes
trimmed_more [] = refl
trimmed_more (byte ∷ bytes) = ap (in_front byte) (trimmed_more bytes)

kept_whole : (bytes : List ℕ) (byte : ℕ) → (byte ≡ 0 → ⊥) → trimmed (bytes ++ byte ∷ []) ≡ bytes ++ byte ∷ []
kept_whole bytes byte other = ap trimmed (sym (append-nil (bytes ++ byte ∷ []))) ∙ padded_trimmed (bytes ++ byte ∷ []) 0 (ends bytes) where
  ends : (front : List ℕ) → ends_in_zero (front ++ byte ∷ []) ≡ false
  ends [] = ne_eqb byte 0 other
  ends (first ∷ []) = ne_eqb byte 0 other
  ends (first ∷ second ∷ front) = later_end first second (front ++ byte ∷ []) ∙ ends (second ∷ front)

-- a zero after this many bytes is passed
pub zero_passed : (bytes : List ℕ) (count : ℕ) → count < length bytes → get_or bytes count 0 ≡ 0 → trimmed (take (count + 1) bytes) ≡ trimmed (take count bytes)
zero_passed bytes count lt is_zero =
    ap trimmed (take_more bytes count 0 lt) ∙ ap (λ (byte : ℕ). trimmed (take count bytes ++ byte ∷ [])) is_zero ∙ trimmed_more (take count bytes)

-- the same, between two places by their numbers
pub zero_stepped : (bytes : List ℕ) (count next : ℕ) → next ≡ count + 1 → next ≤ length bytes → get_or bytes count 0 ≡ 0
    → trimmed (take count bytes) ≡ trimmed (take next bytes)
zero_stepped bytes count next e within is =
    sym (zero_passed bytes count (omega (arith, e, within)) is) ∙ ap (λ (n : ℕ). trimmed (take n bytes)) (sym e)

-- another byte is the last one that is kept
pub other_kept : (bytes : List ℕ) (count : ℕ) → count < length bytes → (get_or bytes count 0 ≡ 0 → ⊥)
    → trimmed (take (count + 1) bytes) ≡ take (count + 1) bytes
other_kept bytes count lt other =
    let next = take_more bytes count 0 lt in
    ap trimmed next ∙ kept_whole (take count bytes) (get_or bytes count 0) other ∙ sym next

pub other_before : (bytes : List ℕ) (count : ℕ) → 0 < count → count ≤ length bytes → (get_or bytes (count - 1) 0 ≡ 0 → ⊥)
    → trimmed (take count bytes) ≡ take count bytes
other_before bytes count some within other =
    let next : count - 1 + 1 ≡ count = omega arith in
    rw next at (other_kept bytes (count - 1) (omega arith) other)

-- ---- eight zeros at once

-- zeros after other bytes are lost
lost_behind : (front zeros : List ℕ) → trimmed zeros ≡ [] → trimmed (front ++ zeros) ≡ trimmed front
lost_behind [] zeros none = none
lost_behind (byte ∷ front) zeros none = ap (in_front byte) (lost_behind front zeros none)

-- bytes that spell 0 are zeros
all_zeros : (last : List ℕ) → length last ≡ 8 → ((i : ℕ) → get_or last i 0 < 256) → from_le_bytes w64 last ≡ 0 → trimmed last ≡ []
all_zeros last len small is = ap trimmed (sym (le_bytes_8 last 0 len small (sym is)))

-- zeros that are put after bytes are lost again
pub trimmed_front : (size : ℕ) (front : List ℕ) → trimmed (padded size front) ≡ trimmed front
trimmed_front size front = lost_behind front (replicate (size - length front) 0) (trimmed_zeros (size - length front))

-- the last eight bytes are lost where they spell 0
pub eight_behind : (bytes front last : List ℕ) → IsBytes bytes
    → (front ≡ take (length bytes - 8) bytes) × (last ≡ drop (length bytes - 8) bytes) × (length front + 8 ≡ length bytes)
    → from_le_bytes w64 last ≡ 0 → trimmed front ≡ trimmed bytes
eight_behind bytes front last small parts is =
    let n = length bytes - 8 in
    let rest = drop n bytes in
    let len : length rest ≡ 8 = omega (arith, length-drop n bytes, parts.2) in
    let none : trimmed rest ≡ [] = all_zeros rest len (IsBytes-drop n bytes small) (ap (from_le_bytes w64) (sym parts.1) ∙ is) in
    ap trimmed parts.0 ∙ sym (lost_behind (take n bytes) rest none) ∙ ap trimmed (take-append-drop n bytes)
