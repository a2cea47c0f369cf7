-- A point of a box at a loop lies in the box where loops inside take all their values.
use Rattle.std.proofs.Common.{◌≡◌, ℕ, zero, suc, ◌+◌, ◌-◌, ◌*◌, Bool, true, false, List, [], ◌∷◌, refl, ap, arith}
use Rattle.std.specs.Prelude.{not, nat_lt, if◌then◌else◌}
use Rattle.std.proofs.lemmas.Bool.{lt-ltb}
use Rattle.bounds_ranges.specs.declared.bases.Multiple.{Multiple}
use Rattle.bounds_ranges.specs.Ranges.{zero_multiple, more_sum, less_sum}
use Rattle.bounds_ranges.proofs.Sums.{more_below, less_below}
use Rattle.bounds_laws.specs.ConsumerLaws.{AgreeFrom, SettledRangesHold, SettledBoxesHold}
use Rattle.bounds.specs.Views.{chosen, inner_part, outer_part}
use Rattle.bounds.proofs.Settling.{less_parts, more_parts}

-- ---- loops outside add the same

abbrev Outer : ℕ → ℕ → Bool
Outer inner at = not (nat_lt at inner)

more_head : (test : Bool) (m : Multiple) (v w a b : ℕ) → (test ≡ true → v ≡ w) → a ≡ b → (if test then m else zero_multiple).more * v + a
    ≡ (if test then m else zero_multiple).more * w + b
more_head true m v w a b same e = let s : m.more * v ≡ m.more * w = ap (λ (n : ℕ). m.more * n) (same refl) in omega (arith, s, e)
more_head false m v w a b same e = omega (arith, e)

less_head : (test : Bool) (m : Multiple) (v w a b : ℕ) → (test ≡ true → v ≡ w) → a ≡ b → (if test then m else zero_multiple).less * v + a
    ≡ (if test then m else zero_multiple).less * w + b
less_head true m v w a b same e = let s : m.less * v ≡ m.less * w = ap (λ (n : ℕ). m.less * n) (same refl) in omega (arith, s, e)
less_head false m v w a b same e = omega (arith, e)

-- a loop with more than none left inside
still_inside : (inner at left v w : ℕ) → suc left ≡ inner - at → Outer inner at ≡ true → v ≡ w
still_inside inner at left v w e outer = let l : nat_lt at inner ≡ true = lt-ltb at inner (omega (arith, e)) in absurd cc

more_outer : (inner at left : ℕ) → left ≡ inner - at → (base : List Multiple) (values others : List ℕ) → AgreeFrom left values others
    → more_sum (chosen (Outer inner) at base) values ≡ more_sum (chosen (Outer inner) at base) others
more_outer inner at left e [] values others agree = refl
more_outer inner at left e (m ∷ ms) [] [] agree = refl
more_outer inner at left e (m ∷ ms) [] (w ∷ others) agree = absurd agree
more_outer inner at left e (m ∷ ms) (v ∷ values) [] agree = absurd agree
more_outer inner at zero e (m ∷ ms) (v ∷ values) (w ∷ others) agree =
    more_head (Outer inner at) m v w (more_sum (chosen (Outer inner) (at + 1) ms) values) (more_sum (chosen (Outer inner) (at + 1) ms) others)
    (λ outer. agree.0)
    (more_outer inner (at + 1) zero (omega (arith, e)) ms values others agree.1)
more_outer inner at (suc left) e (m ∷ ms) (v ∷ values) (w ∷ others) agree =
    more_head (Outer inner at) m v w (more_sum (chosen (Outer inner) (at + 1) ms) values) (more_sum (chosen (Outer inner) (at + 1) ms) others)
    (still_inside inner at left v w e)
    (more_outer inner (at + 1) left (omega (arith, e)) ms values others agree)

less_outer : (inner at left : ℕ) → left ≡ inner - at → (base : List Multiple) (values others : List ℕ) → AgreeFrom left values others
    → less_sum (chosen (Outer inner) at base) values ≡ less_sum (chosen (Outer inner) at base) others
less_outer inner at left e [] values others agree = refl
less_outer inner at left e (m ∷ ms) [] [] agree = refl
less_outer inner at left e (m ∷ ms) [] (w ∷ others) agree = absurd agree
less_outer inner at left e (m ∷ ms) (v ∷ values) [] agree = absurd agree
less_outer inner at zero e (m ∷ ms) (v ∷ values) (w ∷ others) agree =
    less_head (Outer inner at) m v w (less_sum (chosen (Outer inner) (at + 1) ms) values) (less_sum (chosen (Outer inner) (at + 1) ms) others)
    (λ outer. agree.0)
    (less_outer inner (at + 1) zero (omega (arith, e)) ms values others agree.1)
less_outer inner at (suc left) e (m ∷ ms) (v ∷ values) (w ∷ others) agree =
    less_head (Outer inner at) m v w (less_sum (chosen (Outer inner) (at + 1) ms) values) (less_sum (chosen (Outer inner) (at + 1) ms) others)
    (still_inside inner at left v w e)
    (less_outer inner (at + 1) left (omega (arith, e)) ms values others agree)

-- ---- one range, one box

pub settled_ranges_hold : SettledRangesHold
settled_ranges_hold inner lasts values others below agree range x lies =
    let base = range.base in
    let more_same : more_sum (outer_part inner base) values ≡ more_sum (outer_part inner base) others = more_outer inner 0 inner (omega arith) base values
    others agree in
    let less_same : less_sum (outer_part inner base) values ≡ less_sum (outer_part inner base) others = less_outer inner 0 inner (omega arith) base values
    others agree in
    let more_in = more_below (inner_part inner base) values lasts below in
    let less_in = less_below (inner_part inner base) values lasts below in
    let more_all = more_parts inner base values in
    let less_all = less_parts inner base values in
    let more_last = more_parts inner base lasts in
    let less_last = less_parts inner base lasts in
    record {
      word = lies.word;
      low = omega (arith, lies.low, lies.fits_low, more_same, less_same, less_in, more_all, less_all, less_last);
      high = omega (arith, lies.high, more_same, less_same, more_in, more_all, less_all);
      fits_low = omega (arith, lies.fits_low, less_last);
      fits_high = omega (arith, lies.fits_high, more_last);
    }

pub settled_boxes_hold : SettledBoxesHold
settled_boxes_hold inner own values others below agree x y lies = record {
  first = settled_ranges_hold inner own.lasts values others below agree own.x x lies.first;
  second = settled_ranges_hold inner own.lasts values others below agree own.y y lies.second;
}
