-- Words counted from where a box begins, while loops of its consumer have given values.
use Rattle.std.proofs.Common.{◌≡◌, ℕ, ◌+◌, ◌-◌, ◌*◌, ◌%◌, ◌^◌, ◌<◌, ◌≤◌, Bool, List, [], ◌∷◌, sym, ap, ◌∙◌, arith, inl, inr}
use Rattle.std.specs.Prelude.{◌==◌}
use Rattle.std.proofs.lemmas.Bool.{cases_eq, eq-eqb, ne_eqb}
use Rattle.std.proofs.Math.Nat.{mul-le-mul}
use Rattle.halide_pipeline.specs.Words as word
use Rattle.bounds_ranges.specs.declared.bases.Multiple.{Multiple}
use Rattle.bounds_ranges.specs.declared.ranges.Range.{Range}
use Rattle.bounds_ranges.specs.Ranges.{more_sum, less_sum, IsFit}
use Rattle.bounds_ranges.specs.Laws.{Below, Lies}
use Rattle.bounds.specs.Extents.{extent}
use Rattle.bounds_laws.specs.ConsumerLaws.{IsFrom}

-- ---- sums of bases

more_below : (base : List Multiple) (values lasts : List ℕ) → Below values lasts → more_sum base values ≤ more_sum base lasts
more_below [] values lasts below = omega arith
more_below (m ∷ base) [] [] below = omega arith
more_below (m ∷ base) [] (l ∷ lasts) below = absurd below
more_below (m ∷ base) (v ∷ values) [] below = absurd below
more_below (m ∷ base) (v ∷ values) (l ∷ lasts) below =
    let first : m.more * v ≤ m.more * l = mul-le-mul (omega arith) below.0 in
    omega (arith, first, more_below base values lasts below.1)

less_below : (base : List Multiple) (values lasts : List ℕ) → Below values lasts → less_sum base values ≤ less_sum base lasts
less_below [] values lasts below = omega arith
less_below (m ∷ base) [] [] below = omega arith
less_below (m ∷ base) [] (l ∷ lasts) below = absurd below
less_below (m ∷ base) (v ∷ values) [] below = absurd below
less_below (m ∷ base) (v ∷ values) (l ∷ lasts) below =
    let first : m.less * v ≤ m.less * l = mul-le-mul (omega arith) below.0 in
    omega (arith, first, less_below base values lasts below.1)

-- ---- words

-- so far on from a word, where no more words are passed
far_on : (far c : ℕ) → (c + 2 ^ 31) % 2 ^ 32 + far < 2 ^ 32 → (word.add far c + 2 ^ 31) % 2 ^ 32 ≡ (c + 2 ^ 31) % 2 ^ 32 + far
unfolding word.add
far_on far c few = omega (arith, few)

far_small : (far c : ℕ) → word.add far c < 2 ^ 32
unfolding word.add
far_small far c = omega arith

apart : (a c : ℕ) → a < 2 ^ 32 → c < 2 ^ 32 → (c + 2 ^ 31) % 2 ^ 32 ≤ (a + 2 ^ 31) % 2 ^ 32 → word.subtract a c ≡ (a + 2 ^ 31) % 2 ^ 32 - (c + 2 ^ 31) % 2 ^ 32
unfolding word.subtract
apart a c small few below = omega (arith, small, few, below)

pub back_on : (a c : ℕ) → a < 2 ^ 32 → c < 2 ^ 32 → word.add c (word.subtract a c) ≡ a
unfolding word.add word.subtract
back_on a c small few = omega (arith, small, few)

pub on_back : (c far : ℕ) → far < 2 ^ 32 → c < 2 ^ 32 → word.subtract (word.add c far) c ≡ far
unfolding word.add word.subtract
on_back c far small few = omega (arith, small, few)

-- the same point, counted from the corner or not
pub same_test : (a c i : ℕ) → a < 2 ^ 32 → c < 2 ^ 32 → i < 2 ^ 32 → (test : Bool) → (word.subtract a c == i) ≡ test → (a == word.add c i) ≡ test
same_test a c i small few below test e = elim (cases_eq (word.subtract a c) i) [
  | inl same ↦
      eq-eqb a (word.add c i) (sym (back_on a c small few) ∙ ap (word.add c) same) ∙ sym (eq-eqb (word.subtract a c) i same) ∙ e
  | inr other ↦
      ne_eqb a (word.add c i) (λ f. other (ap (λ (n : ℕ). word.subtract n c) f ∙ on_back c i below few)) ∙ sym (ne_eqb (word.subtract a c) i other) ∙ e
]

-- ---- ranges

module _ (lasts values : List ℕ) (below : Below values lasts) (range : Range) (fits : IsFit lasts range) (c : ℕ) (from : IsFrom values range 0 c) where
  pub on_from : (far : ℕ) → far < extent range → IsFrom values range far (word.add far c)
  on_from far few =
      let more = more_below range.base values lasts below in
      let less = less_below range.base values lasts below in
      let on = far_on far c (omega (arith, from.is, few, fits.high, fits.low, more, less)) in
      record { word = far_small far c; is = omega (arith, on, from.is) }

  pub offset_in : (a : ℕ) → Lies lasts values range a → word.subtract a c < extent range
  offset_in a lies =
      let is = apart a c lies.word from.word (omega (arith, from.is, lies.low)) in
      omega (arith, is, from.is, lies.low, lies.high)
