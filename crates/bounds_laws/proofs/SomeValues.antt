-- What holds under some values of loops.
use Rattle.std.proofs.Common.{◌≡◌, ℕ, zero, suc, ◌+◌, ◌^◌, ◌≤◌, Bool, true, false, List, [], ◌∷◌, refl, subst, arith, inl, inr}
use Rattle.std.specs.Prelude.{◌||◌, nat_lt, nat_le}
use Rattle.std.proofs.lemmas.Bool.{and_parts, and_from, or_cases, cases_eq, lt-ltb, ltb-true, leb-true, le-leb}
use Rattle.bounds_ranges.specs.declared.ranges.Range.{Range}
use Rattle.bounds_ranges.specs.Ranges.{more_sum, less_sum}
use Rattle.bounds_ranges.specs.Laws.{Below, Lies}
use Rattle.bounds_ranges.specs.Numbers.{least, greatest, spot}
use Rattle.bounds.specs.declared.boxes.SourceBox.{SourceBox}
use Rattle.bounds_laws.specs.Closure.{some_upto, some_values, lies, lies_in}
use Rattle.bounds_laws.specs.Laws.{LiesIn}

or_left : (a b : Bool) → a ≡ true → (a || b) ≡ true
or_left true b e = refl
or_left false b e = cc

or_right : (a b : Bool) → b ≡ true → (a || b) ≡ true
or_right true b e = refl
or_right false b e = e

-- ---- one loop

record Upto (n : ℕ) (test : ℕ → Bool) : Type 0 where
  pub value : ℕ
  pub few : value ≤ n
  pub passed : test value ≡ true

upto_found : (n : ℕ) (test : ℕ → Bool) → some_upto n test ≡ true → Upto n test
upto_found zero test e = record { value = 0; few = omega arith; passed = e }
upto_found (suc n) test e = elim (or_cases (test (suc n)) (some_upto n test) e) [
  | inl here ↦ record { value = suc n; few = omega arith; passed = here }
  | inr there ↦ let u = upto_found n test there in record { value = u.value; few = omega (arith, u.few); passed = u.passed }
]

upto_given : (n : ℕ) (test : ℕ → Bool) (value : ℕ) → value ≤ n → test value ≡ true → some_upto n test ≡ true
upto_given zero test zero few passed = passed
upto_given zero test (suc value) few passed = absurd (omega (arith, few))
upto_given (suc n) test value few passed = elim (cases_eq value (suc n)) [
  | inl e ↦ or_left (test (suc n)) (some_upto n test) (subst (λ (v : ℕ). test v ≡ true) e passed)
  | inr d ↦ or_right (test (suc n)) (some_upto n test) (upto_given n test value (omega (arith, d, few)) passed)
]

-- ---- all loops

pub record SomeBelow (lasts : List ℕ) (test : List ℕ → Bool) : Type 0 where
  pub values : List ℕ
  pub below : Below values lasts
  pub passed : test values ≡ true

pub values_found : (lasts : List ℕ) (test : List ℕ → Bool) → some_values lasts test ≡ true → SomeBelow lasts test
unfolding some_values
values_found [] test e = record { values = []; below = tt; passed = e }
values_found (last ∷ lasts) test e =
    let u = upto_found last (λ value. some_values lasts (λ values. test (value ∷ values))) e in
    let f = values_found lasts (λ values. test (u.value ∷ values)) u.passed in
    record { values = u.value ∷ f.values; below = (u.few, f.below); passed = f.passed }

pub values_given : (lasts : List ℕ) (test : List ℕ → Bool) (values : List ℕ) → Below values lasts → test values ≡ true → some_values lasts test ≡ true
unfolding some_values
values_given [] test [] below passed = passed
values_given [] test (value ∷ values) below passed = absurd below
values_given (last ∷ lasts) test [] below passed = absurd below
values_given (last ∷ lasts) test (value ∷ values) below passed =
    upto_given last (λ v. some_values lasts (λ vs. test (v ∷ vs))) value below.0 (values_given lasts (λ vs. test (value ∷ vs)) values below.1 passed)

-- ---- points

module _ (lasts values : List ℕ) (range : Range) (x : ℕ) where
  pub lies_of : Lies lasts values range x → lies lasts values range x ≡ true
  lies_of l =
      and_from (nat_lt x (2 ^ 32)) _ (lt-ltb x (2 ^ 32) l.word)
      (and_from (nat_le (range.low + more_sum range.base values) (spot x + less_sum range.base values)) _ (le-leb (range.low + more_sum range.base values)
      (spot x + less_sum range.base values) l.low)
      (and_from (nat_le (spot x + less_sum range.base values) (range.high + more_sum range.base values)) _ (le-leb (spot x + less_sum range.base values)
      (range.high + more_sum range.base values) l.high)
      (and_from (nat_le (least + less_sum range.base lasts) range.low) _ (le-leb (least + less_sum range.base lasts) range.low l.fits_low)
      (le-leb (range.high + more_sum range.base lasts) greatest l.fits_high))))

  pub of_lies : lies lasts values range x ≡ true → Lies lasts values range x
  of_lies e =
      let a = and_parts (nat_lt x (2 ^ 32)) _ e in
      let b = and_parts (nat_le (range.low + more_sum range.base values) (spot x + less_sum range.base values)) _ a.1 in
      let c = and_parts (nat_le (spot x + less_sum range.base values) (range.high + more_sum range.base values)) _ b.1 in
      let d = and_parts (nat_le (least + less_sum range.base lasts) range.low) (nat_le (range.high + more_sum range.base lasts) greatest) c.1 in
      record {
        word = ltb-true x (2 ^ 32) a.0;
        low = leb-true (range.low + more_sum range.base values) (spot x + less_sum range.base values) b.0;
        high = leb-true (spot x + less_sum range.base values) (range.high + more_sum range.base values) c.0;
        fits_low = leb-true (least + less_sum range.base lasts) range.low d.0;
        fits_high = leb-true (range.high + more_sum range.base lasts) greatest d.1;
      }

pub lies_in_of : (source_box : SourceBox) (values : List ℕ) (x y : ℕ) → LiesIn values source_box x y
    → lies_in source_box x y values ≡ true
lies_in_of source_box values x y l =
    and_from (lies source_box.lasts values source_box.x x) (lies source_box.lasts values source_box.y y) (lies_of source_box.lasts values source_box.x x l.first) (lies_of source_box.lasts values source_box.y y
    l.second)

pub of_lies_in : (source_box : SourceBox) (values : List ℕ) (x y : ℕ) → lies_in source_box x y values ≡ true
    → LiesIn values source_box x y
of_lies_in source_box values x y e =
    let k = and_parts (lies source_box.lasts values source_box.x x) (lies source_box.lasts values source_box.y y) e in
    record {
      first = of_lies source_box.lasts values source_box.x x k.0;
      second = of_lies source_box.lasts values
          source_box.y y k.1;
    }
