-- Pixels of few digits, read in one pass.
use Rattle.std.proofs.Common.{◌≡◌, ℕ, ◌-◌, ◌^◌, ◌<◌, ◌≤◌, ◌%◌, Bool, true, false, cond, List, ◌∷◌, [], length, take, drop, get_or, nat_eq, Ok}
use Rattle.std.proofs.Common.{refl, sym, ap, ◌∙◌, arith, inl, inr}
use Rattle.std.specs.Prelude.{◌==◌}
use Rattle.std.specs.Int.{from_bool}
use Rattle.std.proofs.lemmas.Bool.{cases_Bool}
use Rattle.std.proofs.lemmas.Bool.Decides.{nat_tests}
use Rattle.std.proofs.lemmas.List.{take_all}
use Rattle.std.specs.List.{prefix_len, starts_with}
use Rattle.line_text.specs.Lines.{is_digit, decimal_number}
use Rattle.picture.specs.Reading.{behind, is_plain, numeral_at, pixel_of, pixel_then, plain_at}

-- a sign that is passed, where one is in front
pub sign-passed : (text unsigned : List ℕ) (negative : Bool) (count : ℕ) → 1 ≤ length text → negative ≡ (get_or text 0 0 == 45) → count ≡ from_bool negative
    → unsigned ≡ drop count text → numeral_at text ≡ plain_at negative unsigned
unfolding numeral_at
sign-passed [] unsigned negative count some is c d = absurd (omega (arith, some))
sign-passed (byte ∷ text) unsigned negative count some is c d =
    elim (cases_Bool (byte == 45)) [
      | inl minus ↦
          let sign : negative ≡ true = is ∙ minus in
          let one : count ≡ 1 = c ∙ ap from_bool sign in
          let rest : unsigned ≡ text = d ∙ ap (λ (n : ℕ). drop n (byte ∷ text)) one in
          rw (minus, sign, rest) refl
      | inr other ↦
          let sign : negative ≡ false = is ∙ other in
          let none : count ≡ 0 = c ∙ ap from_bool sign in
          let rest : unsigned ≡ byte ∷ text = d ∙ ap (λ (n : ℕ). drop n (byte ∷ text)) none in
          rw (other, sign, rest) refl
    ]

-- digits that spell a number below 2^31
few_digits : (negative : Bool) (digits : List ℕ) → decimal_number digits < 10 ^ 8
    → pixel_of (record { negative = negative; digits = digits }) ≡ Ok (cond negative ((2 ^ 32 - decimal_number digits) % 2 ^ 32) (decimal_number digits))
few_digits true digits few = grind (arith, nat_tests, few)
few_digits false digits few = grind (arith, nat_tests, few)

pub short-pixel : (word text unsigned rest : List ℕ) (negative : Bool) (size len pixel : ℕ) → numeral_at text ≡ plain_at negative unsigned
    → len ≡ prefix_len is_digit unsigned → size ≡ decimal_number (take len unsigned) → size < 10 ^ 8 → is_plain negative (take len unsigned) ≡ true
    → behind word (drop len unsigned) ≡ Ok rest → pixel ≡ cond negative ((2 ^ 32 - size) % 2 ^ 32) size → pixel_then word text ≡ Ok (pixel, rest)
unfolding pixel_then plain_at
short-pixel word text unsigned rest negative size len pixel sign counted spelled few plain stops is =
    let n = prefix_len is_digit unsigned in
    let small : decimal_number (take n unsigned) < 10 ^ 8 = rw (← counted, ← spelled) few in
    let taken : is_plain negative (take n unsigned) ≡ true = rw (← counted) plain in
    let left : behind word (drop n unsigned) ≡ Ok rest = rw (← counted) stops in
    let sized : decimal_number (take n unsigned) ≡ size = rw (← counted) (sym spelled) in
    rw (sign, taken, few_digits negative (take n unsigned) small, left, sized, is) refl

-- a byte that is the one wanted
pub behind_byte : (word text : List ℕ) → length word ≡ 1 → 1 ≤ length text → get_or text 0 0 ≡ get_or word 0 0
    → behind word text ≡ Ok (take (length text - 1) (drop 1 text))
unfolding behind
behind_byte [] text one some e = absurd (omega (arith, one))
behind_byte (wanted ∷ []) [] one some e = absurd (omega (arith, some))
behind_byte (wanted ∷ []) (first ∷ rest) one some e =
    let n : length (first ∷ rest) - 1 ≡ length rest = omega arith in
    let same : nat_eq first wanted ≡ true = grind (arith, nat_tests, e) in
    let begins : starts_with nat_eq (first ∷ rest) (wanted ∷ []) ≡ true = grind (arith, nat_tests, same) in
    rw (n, take_all (length rest) rest (omega arith), begins) refl
behind_byte (wanted ∷ other ∷ word) text one some e = absurd (omega (arith, one))
