-- More bytes than an image has: they are none, and what is after them changes no answer.
use Rattle.std.proofs.Common.{◌≡◌, ℕ, ◌+◌, ◌*◌, ◌<◌, ◌≤◌, Bool, true, false, cond, List, [], ◌∷◌, ◌++◌, length, drop, Option, Some, None, Result, Ok, Err, refl}
use Rattle.std.proofs.Common.{sym, ap, subst, ◌∙◌, arith}
use Rattle.std.specs.Prelude.{nat_lt, ◌||◌}
use Rattle.std.proofs.lemmas.Bool.{ltb-false, le-ltb, lt-ltb, or_parts}
use Rattle.std.proofs.lemmas.List.{take-append-le, drop-append-le, length-drop, length-append}
use Rattle.memory.specs.Access.{most_words, most_bytes}
use Rattle.loader.specs.declared.formats.Format.{Format}
use Rattle.loader.specs.declared.formats.Format.TheVariants.{Hrv1, Hrv2}
use Rattle.loader.specs.declared.faults.LoadFault.{LoadFault}
use Rattle.loader.specs.declared.faults.LoadFault.TheVariants.{OverLimit, TrailingBytes}
use Rattle.loader.specs.Image.{ImageContents}
use Rattle.loader.specs.Spelling.{header_length, number_at, format_of, word_count, byte_count, stored_count, whole_length, image_in, image_by, image_of}
use Rattle.loader.proofs.Frames.{framed_since}
use Rattle.hrv_engines.specs.Devices.{most_image_bytes}

short_header : (format : Format) → header_length format ≤ 36
short_header Hrv1 = omega arith
short_header Hrv2 = omega arith

-- what loads is no longer than that
pub image_length : (bytes : List ℕ) (image : ImageContents) → image_of bytes ≡ Ok image → length bytes ≤ most_image_bytes
image_length bytes image read =
    let found = framed_since bytes image read in
    omega (arith, found.framed.whole, found.framed.words, found.framed.data_bytes, found.framed.stored, short_header found.format)

-- ---- numbers of a header stand in the front

same_number : (front rest : List ℕ) (place : ℕ) → place + 4 ≤ length front → number_at (front ++ rest) place ≡ number_at front place
unfolding number_at
same_number front rest place room =
    let left : 4 ≤ length (drop place front) = subst (λ n. 4 ≤ n) (sym (length-drop place front)) (omega (arith, room)) in
    let begun = drop-append-le place front rest (omega (arith, room)) in
    rw (begun, take-append-le 4 (drop place front) rest left) refl

same_format : (front rest : List ℕ) → 4 ≤ length front → format_of (front ++ rest) ≡ format_of front
unfolding format_of
same_format [] rest long = absurd (omega (arith, long))
same_format (a ∷ []) rest long = absurd (omega (arith, long))
same_format (a ∷ b ∷ []) rest long = absurd (omega (arith, long))
same_format (a ∷ b ∷ c ∷ []) rest long = absurd (omega (arith, long))
same_format (a ∷ b ∷ c ∷ d ∷ more) rest long = refl

same_stored : (format : Format) (front rest : List ℕ) → 36 ≤ length front → stored_count format (front ++ rest) ≡ stored_count format front
same_stored Hrv1 front rest long = same_number front rest 12 (omega (arith, long))
same_stored Hrv2 front rest long = same_number front rest 32 (omega (arith, long))

-- ---- the fault of more bytes than an image has

-- whether the header's counts are past their limits
abbrev is_over : ℕ → ℕ → ℕ → Bool
is_over words data_bytes stored = nat_lt most_words words || nat_lt most_bytes data_bytes || nat_lt data_bytes stored

abbrev fault_in : Format → List ℕ → LoadFault
fault_in format bytes = cond (is_over (word_count bytes) (byte_count bytes) (stored_count format bytes)) OverLimit TrailingBytes

same_fault : (format : Format) (front rest : List ℕ) → 36 ≤ length front → fault_in format (front ++ rest) ≡ fault_in format front
same_fault format front rest long =
    rw (same_number front rest 8 (omega (arith, long)), same_number front rest 12 (omega (arith, long)), same_stored format front rest long) refl

long_fault : (format : Format) (bytes : List ℕ) → most_image_bytes < length bytes → image_in format bytes ≡ Err (fault_in format bytes)
long_fault format bytes long = go (is_over (word_count bytes) (byte_count bytes) (stored_count format bytes)) refl
  where
    header : nat_lt (length bytes) (header_length format) ≡ false
    header = le-ltb (length bytes) (header_length format) (omega (arith, long, short_header format))

    go : (over : Bool) → is_over (word_count bytes) (byte_count bytes) (stored_count format bytes) ≡ over → image_in format bytes ≡ Err (fault_in format bytes)
    go true is = rw (header, is) refl
    go false is =
        let three = or_parts (nat_lt most_words (word_count bytes) || nat_lt most_bytes (byte_count bytes)) (nat_lt (byte_count bytes)
        (stored_count format bytes)) is in
        let both = or_parts (nat_lt most_words (word_count bytes)) (nat_lt most_bytes (byte_count bytes)) three.0 in
        let words = ltb-false most_words (word_count bytes) both.0 in
        let data_bytes = ltb-false most_bytes (byte_count bytes) both.1 in
        let stored = ltb-false (byte_count bytes) (stored_count format bytes) three.1 in
        let past : whole_length format bytes < length bytes = omega (arith, long, words, data_bytes, stored, short_header format) in
        rw (
          header,
          is,
          le-ltb (length bytes) (whole_length format bytes) (omega (arith, past)),
          lt-ltb (whole_length format bytes) (length bytes) past,
        ) refl

by_format : (found : Option Format) (front rest : List ℕ) → most_image_bytes < length front → image_by found (front ++ rest) ≡ image_by found front
by_format None front rest long = refl
by_format (Some format) front rest long =
    let longer : most_image_bytes < length (front ++ rest) = omega (arith, long, length-append front rest) in
    long_fault format (front ++ rest) longer ∙ ap (λ fault. Err fault) (same_fault format front rest (omega (arith, long))) ∙ sym (long_fault format front long)

past_four : (bytes : List ℕ) → 4 ≤ length bytes → image_of bytes ≡ image_by (format_of bytes) bytes
unfolding image_of
past_four bytes long = rw (le-ltb (length bytes) 4 long) refl

pub same_answer : (front rest : List ℕ) → most_image_bytes < length front → image_of (front ++ rest) ≡ image_of front
same_answer front rest long =
    past_four (front ++ rest) (omega (arith, long, length-append front rest))
    ∙ ap (λ found. image_by found (front ++ rest)) (same_format front rest (omega (arith, long)))
    ∙ by_format (format_of front) front rest long
    ∙ sym (past_four front (omega (arith, long)))
