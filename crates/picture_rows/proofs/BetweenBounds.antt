-- Clamped words by the order of the numbers half a turn further.
use Rattle.std.proofs.Common.{◌≡◌, ℕ, ◌+◌, ◌%◌, ◌^◌, ◌<◌, ◌≤◌, true, false, inl, inr, refl, ap, arith}
use Rattle.std.proofs.lemmas.Bool.{lt-ltb, le-ltb, cases_lt}
use Rattle.halide_pipeline.specs.Words as word
use Rattle.halide_pipeline.specs.declared.expressions.Operation.{Operation}
use Rattle.halide_pipeline.specs.declared.expressions.Operation.TheVariants as op
use Rattle.picture_rows.specs.Rows.{value_at, IsRow}
use Rattle.picture_rows.specs.declared.rows.Row.{Row}
use Rattle.picture_rows.specs.declared.rows.Row.TheVariants as rows
use Rattle.picture_rows.specs.inner.Clamps.{IsInside}
use Rattle.picture_rows.specs.declared.clamps.Clamp.{Clamp}

abbrev turned : ℕ → ℕ
turned word = (word + 2 ^ 31) % 2 ^ 32

is-less : (x y : ℕ) → turned x < turned y → word.less x y ≡ true
unfolding word.less
is-less x y less = lt-ltb (turned x) (turned y) less

is-not-less : (x y : ℕ) → turned y ≤ turned x → word.less x y ≡ false
unfolding word.less
is-not-less x y least = le-ltb (turned x) (turned y) least

turned-add : (first at : ℕ) → first < 2 ^ 32 → turned first + at < 2 ^ 32 → turned (word.add first at) ≡ turned first + at
unfolding word.add
turned-add first at small within = omega arith

takes-low : (v low high : ℕ) → turned v < turned low → turned low ≤ turned high → word.minimum (word.maximum v low) high ≡ low
takes-low v low high below order =
    let first : word.less v low ≡ true = is-less v low below in
    let second : word.less high low ≡ false = is-not-less high low order in
    rw (first, second) refl

stays : (v low high : ℕ) → turned low ≤ turned v → turned v ≤ turned high → word.minimum (word.maximum v low) high ≡ v
stays v low high above below =
    let first : word.less v low ≡ false = is-not-less v low above in
    let second : word.less high v ≡ false = is-not-less high v below in
    rw (first, second) refl

takes-high : (v low high : ℕ) → turned low ≤ turned v → turned high < turned v → word.minimum (word.maximum v low) high ≡ high
takes-high v low high above behind =
    let first : word.less v low ≡ false = is-not-less v low above in
    let second : word.less high v ≡ true = is-less high v behind in
    rw (first, second) refl

pub inside-of : (clamp : Clamp) (width first low high from to : ℕ) → clamp.first < 2 ^ 32 → first ≡ (clamp.first + 2 ^ 31) % 2 ^ 32
    → low ≡ (clamp.low + 2 ^ 31) % 2 ^ 32 → high ≡ (clamp.high + 2 ^ 31) % 2 ^ 32 → low ≤ high → first + width ≤ 2 ^ 32 → from ≤ to → to ≤ width
    → ((at : ℕ) → at < from → first + at < low) → ((at : ℕ) → from ≤ at → at < width → low ≤ first + at)
    → ((at : ℕ) → at < to → first + at ≤ high) → ((at : ℕ) → to ≤ at → at < width → high < first + at) → IsInside clamp width (from, to)
inside-of clamp width first low high from to small first_is low_is high_is bounds few order within under from_low to_high over = record {
  order = order;
  within = within;
  before = λ at less.
      let there = turned-add clamp.first at small (omega (arith, first_is, few, less, order, within)) in
      takes-low (word.add clamp.first at) clamp.low clamp.high (omega (arith, there, first_is, low_is, under at less)) (omega (arith, low_is, high_is, bounds));
  inside = λ at more less.
      let there = turned-add clamp.first at small (omega (arith, first_is, few, less, within)) in
      stays (word.add clamp.first at) clamp.low clamp.high (omega (arith, there, first_is, low_is, from_low at more (omega (arith, less, within))))
      (omega (arith, there, first_is, high_is, to_high at less));
  behind = λ at more less.
      let there = turned-add clamp.first at small (omega (arith, first_is, few, less, within)) in
      takes-high (word.add clamp.first at) clamp.low clamp.high
      (omega (arith, there, first_is, low_is, from_low at (omega (arith, order, more)) less)) (omega (arith, there, first_is, high_is, over at more less));
}

-- ---- a bound on one side, and two bounds

no-high : (v : ℕ) → word.minimum v 2147483647 ≡ v
no-high v =
    let no : word.less 2147483647 v ≡ false = is-not-less 2147483647 v (omega arith) in
    rw no refl

no-low : (v : ℕ) → word.maximum v 2147483648 ≡ v
no-low v =
    let no : word.less v 2147483648 ≡ false = is-not-less v 2147483648 (omega arith) in
    rw no refl

two-highs : (v high second : ℕ) → word.minimum v (word.minimum high second) ≡ word.minimum (word.minimum v high) second
two-highs v high second = elim (cases_lt (turned high) (turned v)) [
  | inl below ↦
      let a : word.less high v ≡ true = is-less high v below in
      elim (cases_lt (turned second) (turned high)) [
        | inl lower ↦
            let b : word.less second high ≡ true = is-less second high lower in
            let c : word.less second v ≡ true = is-less second v (omega (arith, below, lower)) in
            rw (a, b, c) refl
        | inr over ↦
            let b : word.less second high ≡ false = is-not-less second high over in
            rw (a, b) (rw a refl)
      ]
  | inr above ↦
      let a : word.less high v ≡ false = is-not-less high v above in
      elim (cases_lt (turned second) (turned high)) [
        | inl lower ↦
            let b : word.less second high ≡ true = is-less second high lower in
            rw (a, b) refl
        | inr over ↦
            let b : word.less second high ≡ false = is-not-less second high over in
            let c : word.less second v ≡ false = is-not-less second v (omega (arith, above, over)) in
            rw (a, b, c) (rw a refl)
      ]
]

pub step-maximum : (width first second : ℕ) (operation : Operation) (row : Row) → row ≡ rows.Step first → operation ≡ op.Maximum
    → IsRow width (λ at. word.applied operation (value_at row at) second)
    (rows.Clamped (record { first = first; low = second; high = 2147483647 }))
step-maximum width first second operation row row_is operation_is = record {
  len = tt;
  each = λ at less. rw (row_is, operation_is) (no-high (word.maximum (word.add first at) second));
}

pub step-minimum : (width first second : ℕ) (operation : Operation) (row : Row) → row ≡ rows.Step first → operation ≡ op.Minimum
    → IsRow width (λ at. word.applied operation (value_at row at) second)
    (rows.Clamped (record { first = first; low = 2147483648; high = second }))
step-minimum width first second operation row row_is operation_is = record {
  len = tt;
  each = λ at less. rw (row_is, operation_is) (ap (λ (v : ℕ). word.minimum v second) (no-low (word.add first at)));
}

pub clamped-minimum : (width second made : ℕ) (clamp : Clamp) (operation : Operation) (row : Row) → row ≡ rows.Clamped clamp → operation ≡ op.Minimum
    → made ≡ word.minimum clamp.high second → IsRow width (λ at. word.applied operation (value_at row at) second)
    (rows.Clamped (record { first = clamp.first; low = clamp.low; high = made }))
clamped-minimum width second made clamp operation row row_is operation_is made_is = record {
  len = tt;
  each = λ at less. rw (made_is, row_is, operation_is) (two-highs (word.maximum (word.add clamp.first at) clamp.low) clamp.high second);
}

pub goes-further : (first from k : ℕ) → word.add (word.add first from) k ≡ word.add first (from + k)
unfolding word.add
goes-further first from k = omega arith
