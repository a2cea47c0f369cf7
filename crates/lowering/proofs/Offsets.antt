-- Words counted from the corner of a range.
use Rattle.std.proofs.Common.{◌≡◌, ℕ, ◌+◌, ◌-◌, ◌%◌, ◌^◌, ◌<◌, ◌≤◌, List, [], ◌∷◌, refl, arith}
use Rattle.halide_pipeline.specs.Words as word
use Rattle.bounds_ranges.specs.declared.bases.Multiple.{Multiple}
use Rattle.bounds_ranges.specs.declared.ranges.Range.{Range}
use Rattle.bounds_ranges.specs.Ranges.{more_sum, less_sum, IsFit}
use Rattle.bounds_ranges.specs.Laws.{Below, Lies}
use Rattle.bounds_ranges.proofs.Sums.{more_below, less_below}
use Rattle.bounds_ranges.specs.Numbers.{least, greatest}
use Rattle.bounds.specs.Boxes.{no_loops}
use Rattle.bounds.specs.Extents.{extent, word_at}
use Rattle.bounds_laws.specs.ConsumerLaws.{IsFrom}
use Rattle.lowering.specs.Corners.{first_of}

-- ---- a box with no loops

pub more_none : (base : List Multiple) → more_sum base no_loops ≡ 0
more_none [] = refl
more_none (a ∷ []) = omega arith
more_none (a ∷ b ∷ []) = omega arith
more_none (a ∷ b ∷ c ∷ []) = omega arith
more_none (a ∷ b ∷ c ∷ d ∷ []) = omega arith
more_none (a ∷ b ∷ c ∷ d ∷ e ∷ []) = omega arith
more_none (a ∷ b ∷ c ∷ d ∷ e ∷ f ∷ base) = omega arith

pub less_none : (base : List Multiple) → less_sum base no_loops ≡ 0
less_none [] = refl
less_none (a ∷ []) = omega arith
less_none (a ∷ b ∷ []) = omega arith
less_none (a ∷ b ∷ c ∷ []) = omega arith
less_none (a ∷ b ∷ c ∷ d ∷ []) = omega arith
less_none (a ∷ b ∷ c ∷ d ∷ e ∷ []) = omega arith
less_none (a ∷ b ∷ c ∷ d ∷ e ∷ f ∷ base) = omega arith

-- ---- words

abbrev biased : ℕ → ℕ
biased x = (x + 2 ^ 31) % 2 ^ 32

pub add_small : (a b : ℕ) → word.add a b < 2 ^ 32
unfolding word.add
add_small a b = omega arith

pub add_swapped : (a b : ℕ) → word.add a b ≡ word.add b a
unfolding word.add
add_swapped a b = omega arith

-- ---- where ranges begin

-- A range with no loops begins at the word at its low end.
pub first_none : (range : Range) → first_of range no_loops ≡ word_at range.low
unfolding word.add word.subtract
first_none range = omega (arith, more_none range.base, less_none range.base)

pub first_small : (range : Range) (values : List ℕ) → first_of range values < 2 ^ 32
unfolding word.subtract
first_small range values = omega arith

-- how far a word is from where a range begins
first_far : (x low more less : ℕ) → x < 2 ^ 32 → low < 2 ^ 32 → low + more ≤ biased x + less → biased x + less < low + more + 2 ^ 32
    → word.subtract x (word.subtract (word.add ((low + 2 ^ 31) % 2 ^ 32) (more % 2 ^ 32)) (less % 2 ^ 32)) ≡ biased x + less - (low + more)
unfolding word.subtract word.add
first_far x low more less small few above below = omega (arith, small, few, above, below)

first_back : (x first : ℕ) → x < 2 ^ 32 → first < 2 ^ 32 → word.add first (word.subtract x first) ≡ x
unfolding word.add word.subtract
first_back x first small few = omega (arith, small, few)

first_on : (far low more less : ℕ) → less ≤ low → low + far + more < 2 ^ 32
    → biased (word.add far (word.subtract (word.add ((low + 2 ^ 31) % 2 ^ 32) (more % 2 ^ 32)) (less % 2 ^ 32))) + less ≡ low + more + far
unfolding word.add word.subtract
first_on far low more less few most = omega (arith, few, most)

-- ---- ranges

module _ (lasts values : List ℕ) (range : Range) (x : ℕ) (lies : Lies lasts values range x) where
  low_is : least ≤ range.low
  low_is = omega (arith, lies.fits_low)

  high_is : range.high ≤ greatest
  high_is = omega (arith, lies.fits_high)

  -- it is one of the numbers of the range
  pub offset_within : range.low ≤ range.high → word.subtract x (first_of range values) < extent range
  offset_within ordered =
      let f = first_far x (range.low - least) (more_sum range.base values) (less_sum range.base values) lies.word (omega (arith, low_is, ordered, high_is))
      (omega (arith, low_is, lies.low)) (omega (arith, low_is, lies.high, high_is)) in
      omega (arith, f, low_is, lies.low, lies.high)

  pub offset_back : word.add (first_of range values) (word.subtract x (first_of range values)) ≡ x
  offset_back = first_back x (first_of range values) lies.word (first_small range values)

-- a point of a range, from where it begins on
pub from_first_on : (lasts values : List ℕ) (range : Range) (far : ℕ) → IsFit lasts range → Below values lasts → far < extent range
    → IsFrom values range far (word.add far (first_of range values))
from_first_on lasts values range far fits below few =
    let more = more_below range.base values lasts below in
    let less = less_below range.base values lasts below in
    let o = first_on far (range.low - least) (more_sum range.base values) (less_sum range.base values) (omega (arith, fits.low, less))
    (omega (arith, few, fits.low, fits.high, fits.ordered, more)) in
    record { word = add_small far (first_of range values); is = omega (arith, o, fits.low) }
