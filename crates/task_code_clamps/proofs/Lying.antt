-- Words that lie in ranges.
use Rattle.std.proofs.Common.{◌≡◌, ℕ, ◌+◌, ◌%◌, ◌^◌, ◌<◌, ◌≤◌, refl, arith, inl, inr}
use Rattle.std.specs.Prelude.{min, max}
use Rattle.std.proofs.lemmas.Bool.{lt-ltb, le-ltb, cases_lt}
use Rattle.halide_pipeline.specs.Words.{add, less, minimum, maximum, subtract}
use Rattle.loop_ir.specs.declared.expressions.Linear.{Linear}
use Rattle.loop_ir.specs.Counters.{Values}
use Rattle.loop_ir.specs.Expressions.{linear_value, sum_of}
use Rattle.task_code_clamps.specs.declared.ranges.LevelRange.{LevelRange}
use Rattle.task_code_clamps.specs.Ranges.{level, LiesIn}

-- the lesser's level is the lesser level, and so it is with the greater
pub level-minimum : (v w : ℕ) → level (minimum v w) ≡ min (level v) (level w)
unfolding less
level-minimum v w = elim (cases_lt (level w) (level v)) [
  | inl l ↦ rw (lt-ltb (level w) (level v) l) (omega arith)
  | inr l ↦ rw (le-ltb (level w) (level v) l) (omega arith)
]

pub level-maximum : (v w : ℕ) → level (maximum v w) ≡ max (level v) (level w)
unfolding less
level-maximum v w = elim (cases_lt (level v) (level w)) [
  | inl l ↦ rw (lt-ltb (level v) (level w) l) (omega arith)
  | inr l ↦ rw (le-ltb (level v) (level w) l) (omega arith)
]

pub lesser-lies : (a b level_range : LevelRange) (v w : ℕ) → level_range.low ≡ min a.low b.low → level_range.high ≡ min a.high b.high → LiesIn a v → LiesIn b w
    → LiesIn level_range (minimum v w)
lesser-lies a b level_range v w el eh x y =
    let e = level-minimum v w in
    let xl = x.low in let xh = x.high in let yl = y.low in let yh = y.high in
    record { low = omega (arith, e, el, xl, yl); high = omega (arith, e, eh, xh, yh) }

pub greater-lies : (a b level_range : LevelRange) (v w : ℕ) → level_range.low ≡ max a.low b.low → level_range.high ≡ max a.high b.high → LiesIn a v → LiesIn b w
    → LiesIn level_range (maximum v w)
greater-lies a b level_range v w el eh x y =
    let e = level-maximum v w in
    let xl = x.low in let xh = x.high in let yl = y.low in let yh = y.high in
    record { low = omega (arith, e, el, xl, yl); high = omega (arith, e, eh, xh, yh) }

-- the first of two words is the lesser, or the second is
pub minimum-first : (v w : ℕ) → level v ≤ level w → minimum v w ≡ v
unfolding less
minimum-first v w l = rw (le-ltb (level w) (level v) l) refl

pub minimum-second : (v w : ℕ) → level w < level v → minimum v w ≡ w
unfolding less
minimum-second v w l = rw (lt-ltb (level w) (level v) l) refl

pub maximum-first : (v w : ℕ) → level w ≤ level v → maximum v w ≡ v
unfolding less
maximum-first v w l = rw (le-ltb (level v) (level w) l) refl

pub maximum-second : (v w : ℕ) → level v < level w → maximum v w ≡ w
unfolding less
maximum-second v w l = rw (lt-ltb (level v) (level w) l) refl

-- ---- sums

pub up-lies : (first most more low : ℕ) (level_range : LevelRange) → low ≡ level first → level_range.low ≡ low → level_range.high ≡ low + most → low + most < 2 ^ 32 → more ≤ most
    → LiesIn level_range (add first more)
unfolding add
up-lies first most more low level_range e el eh small l =
    let s : level ((first + more) % 2 ^ 32) ≡ low + more = omega (arith, e, small, l) in
    record { low = omega (arith, s, el); high = omega (arith, s, eh, l) }

-- a sum is its number and its terms
pub sum-is : (values : Values) (new_sum : Linear) → linear_value values new_sum ≡ add new_sum.number
    (sum_of values new_sum.terms)
unfolding linear_value add
sum-is values new_sum = refl

-- 0 changes nothing
pub none-added : (v w : ℕ) → v < 2 ^ 32 → w ≡ 0 → add v w ≡ v
unfolding add
none-added v w small zero = omega (arith, small, zero)

pub none-subtracted : (v w : ℕ) → v < 2 ^ 32 → w ≡ 0 → subtract v w ≡ v
unfolding subtract
none-subtracted v w small zero = omega (arith, small, zero)

pub sum-word : (values : Values) (new_sum : Linear) → linear_value values new_sum < 2 ^ 32
unfolding linear_value
sum-word values new_sum = omega arith
