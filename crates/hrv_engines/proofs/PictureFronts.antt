-- A front of a picture with more bytes than any has decides its fault: each part of a picture is read from this many
-- bytes, and where there are more, what is after them changes nothing.
use Rattle.std.proofs.Common.{◌≡◌, ◌∙◌, ◌<◌, ◌≤◌, ◌+◌, ◌-◌, ◌*◌, ◌^◌, ◌%◌, ◌&&◌, ℕ, zero, suc, Bool, true, false, cond, not, nat_lt, nat_le, nat_eq, List, []}
use Rattle.std.proofs.Common.{◌∷◌, ◌++◌, length, take, drop, fold, codes, Option, Some, None, Result, Ok, Err, arith, refl, sym, ap, ap₂, subst, inl, inr}
use Rattle.std.specs.Prelude.{◌==◌}
use Rattle.std.specs.List.{list_all, prefix_len, starts_with}
use Rattle.std.specs.Fmt.{decimal}
use Rattle.std.proofs.lemmas.Bool.{and_parts, cases_lt, eq-eqb, le-ltb, leb-true, lt-leb, ne_eqb}
use Rattle.std.proofs.lemmas.Bool.Decides.{nat_tests}
use Rattle.std.proofs.lemmas.Fmt.{length-decimal-le}
use lib.Seq.{take-append-add}
use Rattle.std.proofs.lemmas.List.{drop-append-le, length-append, length-drop, length-take-le, take-append-le, take_all}
use Rattle.std.proofs.lemmas.List.Sums.{prefix_len-le-length}
use Rattle.std.proofs.lemmas.List.Folds.{prefix_len-append}
use Rattle.line_text.specs.Lines.{is_digit, decimal_number, ◌>>=◌}
use Rattle.halide_pipeline.specs.Contents.{PictureContents}
use Rattle.halide_pipeline.specs.WellFormed.{is_height, is_width, most_extent, most_points}
use Rattle.picture.specs.declared.faults.PictureFault.{PictureFault}
use Rattle.picture.specs.declared.faults.PictureFault.TheVariants.{Syntax, Extents, Number}
use Rattle.picture.specs.Reading.{Numeral, Read, behind, digits_at, ended, extent_at, extent_of, heading_at, is_plain, numeral_at, picture_at, picture_of}
use Rattle.picture.specs.Reading.{pixel_of, pixel_then, pixels_at, plain_at, separator}
use Rattle.picture.proofs.Numerals.{cond-Ok, decimal-decimal_number, then-Ok}
use Rattle.hrv_engines.specs.Devices.{most_picture_bytes}

-- ---- readers of this many bytes

-- of a text and of a longer one that begins with it, the same is read, from at most this many bytes
abbrev Same : {A : Type 0} → ℕ → List ℕ → List ℕ → Read A → Read A → Type 0
Same most text rest (Err f) longer = longer ≡ Err f
Same most text rest (Ok read) longer = (longer ≡ Ok (read.0, read.1 ++ rest)) × (length text ≤ length read.1 + most)

-- a reader that does so where there are more bytes
abbrev IsLocal : {A : Type 0} → ℕ → (List ℕ → Read A) → Type 0
IsLocal most reads = (text rest : List ℕ) → most < length text → Same most text rest (reads text) (reads (text ++ rest))

widened : {A : Type 0} (most more : ℕ) (text left rest : List ℕ) (r s : Read A) → length text ≤ length left + most → Same more left rest r s
    → Same (most + more) text rest r s
widened most more text left rest (Err f) s few same = same
widened most more text left rest (Ok read) s few same = (same.0, omega (arith, few, same.1))

wider : {A : Type 0} (most more : ℕ) (reads : List ℕ → Read A) → IsLocal most reads → most ≤ more → IsLocal more reads
wider {A} most more reads local le text rest long = by_read (reads text) (reads (text ++ rest)) (local text rest (omega (arith, long, le)))
  where
    by_read : (r s : Read A) → Same most text rest r s → Same more text rest r s
    by_read (Err f) s same = same
    by_read (Ok read) s same = (same.0, omega (arith, same.1, le))

-- nothing is read
nothing_read : {A : Type 0} (value : A) → IsLocal 0 (λ text. Ok (value, text))
nothing_read value text rest long = (refl, omega arith)

-- one reader after the other
module _ {A B : Type 0} (most more : ℕ) (first : List ℕ → Read A) (next : A → List ℕ → Read B) where
  then_local : IsLocal most first → ((value : A) (text left : List ℕ) → first text ≡ Ok (value, left) → IsLocal more (next value))
      → IsLocal (most + more) (λ text. first text >>= λ read. next read.0 read.1)
  then_local local later text rest long = by_read (first text) (first (text ++ rest)) refl (local text rest (omega (arith, long)))
    where
      by_read : (r s : Read A) → first text ≡ r → Same most text rest r s
          → Same (most + more) text rest (r >>= λ read. next read.0 read.1) (s >>= λ read. next read.0 read.1)
      by_read (Err f) s is same = ap (λ answer. answer >>= λ read. next read.0 read.1) same
      by_read (Ok read) s is same =
          let more_left : more < length read.1 = omega (arith, long, same.1) in
          subst
          (λ answer. Same (most + more) text rest (next read.0 read.1) (answer >>= λ got. next got.0 got.1))
          (sym same.0)
          (widened most more text read.1 rest (next read.0 read.1) (next read.0 (read.1 ++ rest)) same.1 (later read.0 text read.1 is read.1 rest more_left))

-- a word, and what is read after it
module _ {B : Type 0} (word : List ℕ) (more : ℕ) (next : List ℕ → Read B) where
  word_then : IsLocal more next → IsLocal (length word + more) (λ text. behind word text >>= next)
  unfolding behind
  word_then local text rest long =
      let within : length word ≤ length text = omega (arith, long) in
      let begins : starts_with nat_eq (text ++ rest) word ≡ starts_with nat_eq text word = rw (take-append-le (length word) text rest within) refl in
      let left : drop (length word) (text ++ rest) ≡ drop (length word) text ++ rest = drop-append-le (length word) text rest within in
      rw (begins, left) (by_word (starts_with nat_eq text word))
    where
      by_word : (is : Bool) → Same (length word + more) text rest (cond is (Ok (drop (length word) text)) (Err Syntax) >>= next)
          (cond is (Ok (drop (length word) text ++ rest)) (Err Syntax) >>= next)
      by_word false = refl
      by_word true =
          let within : length word ≤ length text = omega (arith, long) in
          let behind_it = drop (length word) text in
          let count : length behind_it + length word ≡ length text = omega (arith, length-drop (length word) text, within) in
          widened (length word) more text behind_it rest (next behind_it) (next (behind_it ++ rest)) (omega (arith, count))
          (local behind_it rest (omega (arith, count, long)))

-- ---- numbers

-- whether the test refuses each number of more than ten digits, and how
abbrev FailsPastTen : (Numeral → Result ℕ PictureFault) → PictureFault → Type 0
FailsPastTen test fault =
    (negative : Bool) (digits : List ℕ) → list_all is_digit digits ≡ true → is_plain negative digits ≡ true → 10 < length digits
    → test (record { negative = negative; digits = digits }) ≡ Err fault

large : (negative : Bool) (digits : List ℕ) → list_all is_digit digits ≡ true → is_plain negative digits ≡ true → 10 < length digits
    → 10 ^ 10 ≤ decimal_number digits
large negative digits all plain long = elim (cases_lt (decimal_number digits) (10 ^ 10)) [
  | inl small ↦
      let is : decimal (decimal_number digits) ≡ digits = decimal-decimal_number negative digits all plain (omega (arith, small)) in
      let few : length (decimal (decimal_number digits)) ≤ 10 = length-decimal-le 10 (decimal_number digits) (omega arith) (omega (arith, small))
      (omega (arith, small)) in
      absurd (omega (arith, few, ap length is, long))
  | inr past ↦ past
]

pixels_fail : FailsPastTen pixel_of Number
pixels_fail true digits all plain long =
    let past : nat_le (decimal_number digits) (2 ^ 31) ≡ false = lt-leb (decimal_number digits) (2 ^ 31) (omega (arith, large true digits all plain long)) in
    rw past refl
pixels_fail false digits all plain long =
    let past : nat_lt (decimal_number digits) (2 ^ 31) ≡ false = le-ltb (decimal_number digits) (2 ^ 31) (omega (arith, large false digits all plain long)) in
    rw past refl

extents_fail : (test : ℕ → Bool) → ((number : ℕ) → most_extent < number → test number ≡ false) → FailsPastTen (extent_of test) Extents
extents_fail test fails true digits all plain long = refl
extents_fail test fails false digits all plain long =
    rw (fails (decimal_number digits) (omega (arith, large false digits all plain long))) refl

widths_fail : (number : ℕ) → most_extent < number → is_width number ≡ false
widths_fail number past = grind (arith, nat_tests)

heights_fail : (width number : ℕ) → most_extent < number → is_height width number ≡ false
heights_fail width number past =
    let high : nat_le number most_extent ≡ false = lt-leb number most_extent past in
    by_low (nat_le 1 number) high
  where
    by_low : (low : Bool) → nat_le number most_extent ≡ false → (low && nat_le number most_extent && nat_le (width * number) most_points) ≡ false
    by_low false high = refl
    by_low true high = rw high refl

all_digits : (text : List ℕ) → list_all is_digit (digits_at text) ≡ true
all_digits [] = refl
all_digits (x ∷ xs) = at_first (is_digit x) refl (all_digits xs)
  where
    at_first : (passes : Bool) → is_digit x ≡ passes → list_all is_digit (digits_at xs) ≡ true
        → list_all is_digit (take (cond passes (1 + prefix_len is_digit xs) 0) (x ∷ xs)) ≡ true
    at_first true e others = let n : 1 + prefix_len is_digit xs ≡ suc (prefix_len is_digit xs) = omega arith in rw (n, e) others
    at_first false e others = refl

same_plain : (negative : Bool) (digits more : List ℕ) → 2 ≤ length digits → is_plain negative (digits ++ more) ≡ is_plain negative digits
same_plain negative [] more some = absurd (omega (arith, some))
same_plain negative (first ∷ []) more some = absurd (omega (arith, some))
same_plain negative (first ∷ second ∷ digits) more some = refl

abbrev digit_count : List ℕ → ℕ
digit_count text = prefix_len is_digit text

module _ {B : Type 0} (more : ℕ) (test : Numeral → Result ℕ PictureFault) (fault : PictureFault) (fails : FailsPastTen test fault) (next : ℕ → List ℕ
    → Read B) where
  -- a numeral that passes the test, and what is read after it
  abbrev tested : Read Numeral → Read B
  tested read = read >>= λ numeral. test numeral.0 >>= λ value. next value numeral.1

  module _ (local : (value : ℕ) → IsLocal more (next value)) (negative : Bool) (text rest : List ℕ) (long : 10 + more < length text) where
    abbrev digits : List ℕ
    digits = digits_at text

    abbrev left : List ℕ
    left = drop (digit_count text) text

    abbrev numeral : List ℕ → Numeral
    numeral some = record { negative = negative; digits = some }

    -- the digits end within the text
    ended_within : digit_count text < length text → Same (10 + more) text rest (tested (plain_at negative text)) (tested (plain_at negative (text ++ rest)))
    unfolding plain_at
    ended_within within =
        let other : nat_eq (digit_count text) (length text) ≡ false = ne_eqb (digit_count text) (length text) (λ e. omega (arith, within, e)) in
        let count : digit_count (text ++ rest) ≡ digit_count text = prefix_len-append is_digit text rest ∙ rw other refl in
        let front : take (digit_count text) (text ++ rest) ≡ digits = take-append-le (digit_count text) text rest (omega (arith, within)) in
        let back : drop (digit_count text) (text ++ rest) ≡ left ++ rest = drop-append-le (digit_count text) text rest (omega (arith, within)) in
        rw (count, front, back) (by_plain (is_plain negative digits) refl)
      where
        by_test : (answer : Result ℕ PictureFault) → is_plain negative digits ≡ true → test (numeral digits) ≡ answer
            → Same (10 + more) text rest (answer >>= λ value. next value left) (answer >>= λ value. next value (left ++ rest))
        by_test (Err f) plain is = refl
        by_test (Ok value) plain is =
            let few : length digits ≤ 10 = elim (cases_lt 10 (length digits)) [
              | inl past ↦ absurd (impossible (sym is ∙ fails negative digits (all_digits text) plain past))
              | inr le ↦ le
            ] in
            let counted : length digits ≡ digit_count text = length-take-le (digit_count text) text (omega (arith, within)) in
            let count : length left + digit_count text ≡ length text = omega (arith, length-drop (digit_count text) text, within) in
            widened 10 more text left rest (next value left) (next value (left ++ rest)) (omega (arith, count, counted, few))
            (local value left rest (omega (arith, count, counted, few, long)))
          where
            impossible : Ok value ≡ Err fault → ⊥
            impossible e = cc

        by_plain : (plain : Bool) → is_plain negative digits ≡ plain
            → Same (10 + more) text rest (tested (cond plain (Ok (numeral digits, left)) (Err Syntax))) (tested (cond plain (Ok (numeral digits, left ++ rest))
            (Err Syntax)))
        by_plain false is = refl
        by_plain true is = by_test (test (numeral digits)) is refl

    -- the text is digits alone, and too many
    digits_alone : length text ≤ digit_count text → Same (10 + more) text rest (tested (plain_at negative text)) (tested (plain_at negative (text ++ rest)))
    unfolding plain_at
    digits_alone all =
        let whole : digits ≡ text = take_all (digit_count text) text all in
        let same : nat_eq (digit_count text) (length text) ≡ true = eq-eqb (digit_count text) (length text) (omega (
          arith,
          all,
          prefix_len-le-length is_digit
              text,
        )) in
        let count : digit_count (text ++ rest) ≡ length text + digit_count rest = prefix_len-append is_digit text rest ∙ rw same refl in
        let longer : digits_at (text ++ rest) ≡ text ++ take (digit_count rest) rest = rw count (take-append-add text rest (digit_count rest)) in
        by_plain (is_plain negative digits) refl whole longer (rw (longer, whole) (same_plain negative text (take (digit_count rest) rest)
        (omega (arith, long))))
      where
        by_plain : (plain : Bool) → is_plain negative digits ≡ plain → digits ≡ text → digits_at (text ++ rest) ≡ text ++ take (digit_count rest) rest
            → is_plain negative (digits_at (text ++ rest)) ≡ is_plain negative digits
            → Same (10 + more) text rest (tested (cond (is_plain negative digits) (Ok (numeral digits, left)) (Err Syntax)))
            (tested (cond (is_plain negative (digits_at (text ++ rest))) (Ok (
              numeral (digits_at (text ++ rest)),
              drop (digit_count (text ++ rest)) (text
                  ++ rest),
            )) (Err Syntax)))
        by_plain false is whole longer same = rw (same, is) refl
        by_plain true is whole longer same =
            let short : test (numeral digits) ≡ Err fault = fails negative digits (all_digits text) is (omega (arith, ap length whole, long)) in
            let many : test (numeral (digits_at (text ++ rest))) ≡ Err fault =
            fails negative (digits_at (text ++ rest)) (all_digits (text ++ rest)) (same ∙ is)
            (omega (arith, ap length longer, length-append text (take (digit_count rest) rest), long)) in
            rw (same, is, short, many) refl

    plain_then : Same (10 + more) text rest (tested (plain_at negative text)) (tested (plain_at negative (text ++ rest)))
    plain_then = elim (cases_lt (digit_count text) (length text)) [ inl within ↦ ended_within within | inr all ↦ digits_alone all ]

  numeral_then : ((value : ℕ) → IsLocal more (next value)) → IsLocal (11 + more) (λ text. tested (numeral_at text))
  unfolding numeral_at
  numeral_then local [] rest long = absurd (omega (arith, long))
  numeral_then local (byte ∷ text) rest long = by_sign (byte == 45)
    where
      by_one : (front whole : List ℕ) (r s : Read B) → length whole ≤ length front + 1 → Same (10 + more) front rest r s → Same (11 + more) whole rest r s
      by_one front whole (Err f) s le same = same
      by_one front whole (Ok read) s le same = (same.0, omega (arith, same.1, le))

      by_sign : (signed : Bool) → Same (11 + more) (byte ∷ text) rest (tested (cond signed (plain_at true text) (plain_at false (byte ∷ text))))
          (tested (cond signed (plain_at true (text ++ rest)) (plain_at false (byte ∷ (text ++ rest)))))
      by_sign true = by_one text (byte ∷ text) _ _ (omega arith) (plain_then local true text rest (omega (arith, long)))
      by_sign false = by_one (byte ∷ text) (byte ∷ text) _ _ (omega arith) (plain_then local false (byte ∷ text) rest (omega (arith, long)))

-- ---- the heading

extent_local : (test : ℕ → Bool) → ((number : ℕ) → most_extent < number → test number ≡ false) → IsLocal 11 (extent_at test)
unfolding extent_at
extent_local test fails = numeral_then 0 (extent_of test) Extents (extents_fail test fails) (λ extent left. Ok (extent, left)) nothing_read

heading_local : IsLocal 32 heading_at
unfolding heading_at
heading_local =
    word_then (codes "picture ") 24 _ (
    then_local 11 13 (extent_at is_width) _ (extent_local is_width widths_fail) (λ width text left is.
    word_then (codes " ") 12 _ (
    then_local 11 1 (extent_at (is_height width)) _ (extent_local (is_height width) (heights_fail width)) (λ height text left is.
    word_then (codes "\n") 0 (λ rest. Ok ((width, height), rest)) (nothing_read (width, height)))
    ))
    )

-- ---- pixels

separator_length : (width left : ℕ) → length (separator width left) ≡ 1
separator_length width left = by_test (left % width == 0)
  where
    by_test : (last : Bool) → length (cond last (codes "\n") (codes " ")) ≡ 1
    by_test true = refl
    by_test false = refl

pixel_local : (word : List ℕ) → length word ≡ 1 → IsLocal 12 (pixel_then word)
unfolding pixel_then
pixel_local word one =
    wider (11 + (length word + 0)) 12 (pixel_then word)
    (numeral_then (length word + 0) pixel_of Number pixels_fail (λ pixel left. behind word left >>= λ rest. Ok (pixel, rest))
    (λ pixel. word_then word 0 (λ rest. Ok (pixel, rest)) (nothing_read pixel)))
    (omega (arith, one))

pixels_local : (width left : ℕ) → IsLocal (12 * left) (pixels_at width left)
unfolding pixels_at
pixels_local width zero = nothing_read []
pixels_local width (suc left) =
    wider (12 + (12 * left + 0)) (12 * suc left) (pixels_at width (suc left))
    (then_local 12 (12 * left + 0) (pixel_then (separator width left)) _ (pixel_local (separator width left) (separator_length width left))
    (λ first text behind_it is.
    then_local (12 * left) 0 (pixels_at width left) _ (pixels_local width left) (λ others text behind_it is. nothing_read (first ∷ others))))
    (omega arith)

-- ---- the whole

extent_passed : (test : ℕ → Bool) (text : List ℕ) (read : ℕ × List ℕ) → extent_at test text ≡ Ok read → test read.0 ≡ true
unfolding extent_at
extent_passed test text read is =
    let number = then-Ok (numeral_at text) _ read is in
    let extent = then-Ok (extent_of test number.0.0) _ read number.1.1 in
    let passed = cond-Ok (not number.0.0.negative && test (decimal_number number.0.0.digits)) (decimal_number number.0.0.digits) extent.0 Extents extent.1.0 in
    let found : extent.0 ≡ read.0 = cc extent.1.1 in
    subst (λ n. test n ≡ true) (passed.1 ∙ found) (and_parts (not number.0.0.negative) (test (decimal_number number.0.0.digits)) passed.0).1

few_pixels : (text : List ℕ) (read : (ℕ × ℕ) × List ℕ) → heading_at text ≡ Ok read → read.0.0 * read.0.1 ≤ most_points
unfolding heading_at
few_pixels text read is =
    let from_width = then-Ok (behind (codes "picture ") text) _ read is in
    let width = then-Ok (extent_at is_width from_width.0) _ read from_width.1.1 in
    let from_height = then-Ok (behind (codes " ") width.0.1) _ read width.1.1 in
    let height = then-Ok (extent_at (is_height width.0.0) from_height.0) _ read from_height.1.1 in
    let rest = then-Ok (behind (codes "\n") height.0.1) _ read height.1.1 in
    let passed = extent_passed (is_height width.0.0) from_height.0 height.0 height.1.0 in
    let few = leb-true (width.0.0 * height.0.0) most_points (and_parts (nat_le 1 height.0.0 && nat_le height.0.0 most_extent) (nat_le (width.0.0 * height.0.0)
    most_points) passed).1 in
    let found : ((width.0.0, height.0.0), rest.0) ≡ read = cc rest.1.1 in
    subst (λ (r : (ℕ × ℕ) × List ℕ). r.0.0 * r.0.1 ≤ most_points) found few

picture_local : IsLocal (32 + (12 * most_points + 0)) picture_at
unfolding picture_at
picture_local =
    then_local 32 (12 * most_points + 0) heading_at _ heading_local (λ extents text left is.
    then_local (12 * most_points) 0 (pixels_at extents.0 (extents.0 * extents.1)) _
    (wider (12 * (extents.0 * extents.1)) (12 * most_points) (pixels_at extents.0 (extents.0 * extents.1)) (pixels_local extents.0 (extents.0 * extents.1))
    (omega (arith, few_pixels text (extents, left) is)))
    (λ pixels text left is. nothing_read (record { width = extents.0; height = extents.1; pixels = pixels })))

pub same_answer : (front rest : List ℕ) → most_picture_bytes < length front → picture_of (front ++ rest) ≡ picture_of front
unfolding picture_of ended
same_answer front rest long = by_read (picture_at front) (picture_at (front ++ rest)) (picture_local front rest (omega (arith, long)))
  where
    by_end : (picture : PictureContents) (left : List ℕ) → 0 < length left → ended picture (left ++ rest) ≡ ended picture left
    by_end picture [] some = absurd (omega (arith, some))
    by_end picture (byte ∷ left) some = refl

    by_read : (r s : Read PictureContents) → Same (32 + (12 * most_points + 0)) front rest r s → (s >>= λ picture. ended picture.0 picture.1)
        ≡ (r >>= λ picture. ended picture.0 picture.1)
    by_read (Err f) s same = ap (λ answer. answer >>= λ picture. ended picture.0 picture.1) same
    by_read (Ok read) s same = ap (λ answer. answer >>= λ picture. ended picture.0 picture.1) same.0 ∙ by_end read.0 read.1 (omega (arith, same.1, long))

pub picture_length : (text : List ℕ) (picture : PictureContents) → picture_of text ≡ Ok picture → length text ≤ most_picture_bytes
unfolding picture_of ended
picture_length text picture is = elim (cases_lt most_picture_bytes (length text)) [
  | inl long ↦ absurd (refused (picture_at text) (picture_at (text ++ [])) (picture_local text [] (omega (arith, long))) long is)
  | inr le ↦ le
]
  where
    not_ended : (got : PictureContents) (left : List ℕ) → 0 < length left → ended got left ≡ Ok picture → ⊥
    not_ended got [] some e = absurd (omega (arith, some))
    not_ended got (byte ∷ left) some e = cc

    refused : (r s : Read PictureContents) → Same (32 + (12 * most_points + 0)) text [] r s → most_picture_bytes < length text
        → (r >>= λ got. ended got.0 got.1) ≡ Ok picture → ⊥
    refused (Err f) s same long e = cc
    refused (Ok read) s same long e = not_ended read.0 read.1 (omega (arith, same.1, long)) e
