-- The value of an expression lies in its range.
use Rattle.std.proofs.Common.{◌≡◌, ℕ, ◌+◌, ◌-◌, ◌%◌, ◌^◌, ◌<◌, ◌≤◌, Bool, true, false, not, cond, List, [], ◌∷◌, ◌++◌, Option, None, Some, ◌==◌, refl, arith}
use Rattle.std.proofs.Common.{inl, inr}
use Rattle.std.specs.Prelude.{nat_le, min, max, slice_get, if◌then◌else◌}
use Rattle.std.proofs.lemmas.Bool.{lt-ltb, le-ltb, leb-true, cases_lt, and_parts}
use Rattle.halide_pipeline.specs.declared.definitions.Func.{Func}
use Rattle.halide_pipeline.specs.declared.definitions.Input.{Input}
use Rattle.halide_pipeline.specs.declared.expressions.Expr.{Expr}
use Rattle.halide_pipeline.specs.declared.expressions.Expr.TheOpen.{Expr-F}
use Rattle.halide_pipeline.specs.declared.expressions.Expr.TheOpen as layer
use Rattle.halide_pipeline.specs.declared.expressions.Operation.{Operation}
use Rattle.halide_pipeline.specs.declared.expressions.Operation.TheVariants as op
use Rattle.halide_pipeline.specs.declared.expressions.Source.{Source}
use Rattle.halide_pipeline.specs.declared.expressions.Source.TheVariants as sources
use Rattle.halide_pipeline.specs.declared.expressions.Variable.{Variable}
use Rattle.halide_pipeline.specs.WellFormed.{keeps, is_read}
use Rattle.halide_pipeline.specs.Words.{add, subtract, less, truth, minimum, maximum, applied}
use Rattle.halide_pipeline.specs.declared.environments.Environment.{Environment}
use Rattle.halide_pipeline.specs.Pixel.{Reads, variable}
use Rattle.halide_pipeline.specs.Levels.{Both}
use Rattle.halide_pipeline.specs.Points.{Point, Seen}
use Rattle.bounds_inlining.specs.Inlining.{Inside, inside, through, through_at, inlined}
use Rattle.bounds_inlining.specs.Laws.{AreFuncs, RelatesLevels, RelatesArguments, RelatesSeconds, RelatesCalls, seen_variable}
use Rattle.bounds_inlining.specs.Values.{seeing, second_points}
use Rattle.bounds_inlining.proofs.Kept.{folds_are_related, levels_related}
use Rattle.bounds_inlining.proofs.KeptFolds.{KeptLevels, kept_folds_related}
use Rattle.bounds_ranges.specs.declared.ranges.CommonBase.{CommonBase}
use Rattle.bounds_ranges.specs.declared.ranges.Ends.{Ends}
use Rattle.bounds_ranges.specs.declared.expressions.ReadRange.{ReadRange}
use Rattle.bounds_ranges.specs.declared.expressions.OwnCalls.{OwnCalls}
use Rattle.bounds_ranges.specs.declared.ranges.Range.{Range}
use Rattle.bounds_ranges.specs.Ranges.{no_base, add_base, negated, same_base, more_sum, less_sum, between, every, ends_of, fit, widened, added, subtracted}
use Rattle.bounds_ranges.specs.Ranges.{aligned, together, lesser, greater, hull, truths, literal, operated}
use Rattle.bounds_ranges.specs.Numbers.{origin, least, greatest, spot}
use Rattle.bounds_ranges.specs.Expressions.{Ranged, ranging, second_asked, unasked_variable, pixels_of, called, ranges_where, is_anywhere, chosen}
use Rattle.bounds_ranges.specs.Expressions.{ranged_update}
use Rattle.bounds_ranges.specs.Laws.{Below, Lies, AllLie, Covers, AnswerWords, RangesCover, UpdateRangesCover}
use Rattle.bounds_ranges.proofs.Sums.{more_below, less_below, add_sums, negated_more, negated_less, negated_small, same_sums}
use Rattle.bounds_ranges.proofs.Lying.{between_lies, every_lies, small_of, widened_stands, fit_lies, plain_lies}
use Rattle.bounds_ranges.proofs.Products.{multiplied_lies}
use Rattle.bounds_ranges.proofs.Division.{divided_lies, remainder_lies, literal_lies}

-- sums of signed words that stay signed words
sum_between : (x y al bl ah bh am an bm bn m n : ℕ) → x < 2 ^ 32 → y < 2 ^ 32
    → al + am ≤ spot x + an → bl + bm ≤ spot y + bn → spot x + an ≤ ah + am → spot y + bn ≤ bh + bm
    → least + n ≤ al + bl - origin → ah + bh - origin + m ≤ greatest → m + (an + bn) ≡ n + (am + bm) → least ≤ al → least ≤ bl
    → (al + bl - origin + m ≤ spot ((x + y) % 2 ^ 32) + n) × (spot ((x + y) % 2 ^ 32) + n ≤ ah + bh - origin + m)
sum_between x y al bl ah bh am an bm bn m n wx wy lx ly hx hy fl fh e a b =
    let s : spot ((x + y) % 2 ^ 32) + origin ≡ spot x + spot y = omega arith in
    (omega (arith, s), omega (arith, s))

-- differences of signed words that stay signed words
difference_between : (x y al bl ah bh am an bm bn m n : ℕ) → x < 2 ^ 32 → y < 2 ^ 32
    → al + am ≤ spot x + an → bl + bm ≤ spot y + bn → spot x + an ≤ ah + am → spot y + bn ≤ bh + bm
    → least + n ≤ al + origin - bh → ah + origin - bl + m ≤ greatest → m + (an + bm) ≡ n + (am + bn) → least ≤ al → bh ≤ greatest → least ≤ bl → ah ≤ greatest
    → (al + origin - bh + m ≤ spot ((x + (2 ^ 32 - y)) % 2 ^ 32) + n) × (spot ((x + (2 ^ 32 - y)) % 2 ^ 32) + n ≤ ah + origin - bl + m)
difference_between x y al bl ah bh am an bm bn m n wx wy lx ly hx hy fl fh e a b c d =
    let s : spot ((x + (2 ^ 32 - y)) % 2 ^ 32) + spot y ≡ spot x + origin = omega arith in
    (omega (arith, s), omega (arith, s))

-- what is picked of two words, by ends
record Picks (ends : Ends → Ends → Ends) (p q r : ℕ) : Type 0 where
  pub below : (a b : Ends) (m n : ℕ) → a.low + m ≤ p + n → b.low + m ≤ q + n → (ends a b).low + m ≤ r + n
  pub above : (a b : Ends) (m n : ℕ) → p + n ≤ a.high + m → q + n ≤ b.high + m → r + n ≤ (ends a b).high + m

picks_first : (p q : ℕ) → Picks hull p q p
picks_first p q = record { below = λ a b m n l k. omega arith; above = λ a b m n l k. omega arith }

picks_second : (p q : ℕ) → Picks hull p q q
picks_second p q = record { below = λ a b m n l k. omega arith; above = λ a b m n l k. omega arith }

picks_least : (p q r : ℕ) → r ≡ min p q → Picks lesser p q r
picks_least p q r e = record { below = λ a b m n l k. omega (arith, e); above = λ a b m n l k. omega (arith, e) }

picks_greatest : (p q r : ℕ) → r ≡ max p q → Picks greater p q r
picks_greatest p q r e = record { below = λ a b m n l k. omega (arith, e); above = λ a b m n l k. omega (arith, e) }

spot_minimum : (x y : ℕ) → spot (minimum x y) ≡ min (spot x) (spot y)
unfolding less
spot_minimum x y = elim (cases_lt ((y + 2 ^ 31) % 2 ^ 32) ((x + 2 ^ 31) % 2 ^ 32)) [
  | inl l ↦ rw (lt-ltb ((y + 2 ^ 31) % 2 ^ 32) ((x + 2 ^ 31) % 2 ^ 32) l) (omega arith)
  | inr l ↦ rw (le-ltb ((y + 2 ^ 31) % 2 ^ 32) ((x + 2 ^ 31) % 2 ^ 32) l) (omega arith)
]

spot_maximum : (x y : ℕ) → spot (maximum x y) ≡ max (spot x) (spot y)
unfolding less
spot_maximum x y = elim (cases_lt ((x + 2 ^ 31) % 2 ^ 32) ((y + 2 ^ 31) % 2 ^ 32)) [
  | inl l ↦ rw (lt-ltb ((x + 2 ^ 31) % 2 ^ 32) ((y + 2 ^ 31) % 2 ^ 32) l) (omega arith)
  | inr l ↦ rw (le-ltb ((x + 2 ^ 31) % 2 ^ 32) ((y + 2 ^ 31) % 2 ^ 32) l) (omega arith)
]

one_of_two : (test : Bool) (x y : ℕ) → x < 2 ^ 32 → y < 2 ^ 32 → cond test x y < 2 ^ 32
one_of_two true x y lx ly = lx
one_of_two false x y lx ly = ly

module _ (lasts values : List ℕ) (below : Below values lasts) where
  added_lies : (a b : Range) (x y : ℕ) → Lies lasts values a x → Lies lasts values b y → Lies lasts values (added lasts a b) (add x y)
  unfolding add
  added_lies a b x y la lb =
      fit_lies lasts values below (add_base a.base b.base) (record { low = a.low + b.low - origin; high = a.high + b.high - origin }) ((x + y) % 2 ^ 32)
      (omega arith)
      (λ l h.
      let s = add_sums a.base b.base values lasts below (small_of lasts values below a x la) (small_of lasts values below b y lb) in
      let m = more_below (add_base a.base b.base) values lasts below in
      let n = less_below (add_base a.base b.base) values lasts below in
      sum_between x y a.low b.low a.high b.high (more_sum a.base values) (less_sum a.base values) (more_sum b.base values) (less_sum b.base values)
      (more_sum (add_base a.base b.base) values) (less_sum (add_base a.base b.base) values)
      la.word lb.word la.low lb.low la.high lb.high (omega (arith, l, n)) (omega (arith, h, m)) s (omega (arith, la.fits_low)) (omega (arith, lb.fits_low)))

  subtracted_lies : (a b : Range) (x y : ℕ) → Lies lasts values a x → Lies lasts values b y → Lies lasts values (subtracted lasts a b) (subtract x y)
  unfolding subtract
  subtracted_lies a b x y la lb =
      fit_lies lasts values below (add_base a.base (negated b.base)) (record { low = a.low + origin - b.high; high = a.high + origin - b.low })
      ((x + (2 ^ 32 - y)) % 2 ^ 32) (omega arith)
      (λ l h.
      let s = add_sums a.base (negated b.base) values lasts below (small_of lasts values below a x la) (negated_small b.base lasts (small_of lasts values below
      b y lb)) in
      let m = more_below (add_base a.base (negated b.base)) values lasts below in
      let n = less_below (add_base a.base (negated b.base)) values lasts below in
      difference_between x y a.low b.low a.high b.high (more_sum a.base values) (less_sum a.base values) (more_sum b.base values) (less_sum b.base values)
      (more_sum (add_base a.base (negated b.base)) values) (less_sum (add_base a.base (negated b.base)) values)
      la.word lb.word la.low lb.low la.high lb.high (omega (arith, l, n)) (omega (arith, h, m)) (omega (
        arith,
        s,
        negated_more b.base values,
        negated_less
            b.base values,
      )) (omega (arith, la.fits_low)) (omega (arith, lb.fits_high)) (omega (arith, lb.fits_low)) (omega (arith, la.fits_high)))

  together_at : (test : Bool) (ends : Ends → Ends → Ends) (a b : Range) (x y z : ℕ) → same_base a.base b.base ≡ test → Lies lasts values a x
      → Lies lasts values b y → z < 2 ^ 32 → Picks ends (spot x) (spot y) (spot z)
      → (both : CommonBase) → both ≡ cond test (record { base = a.base; first = ends_of a; second = ends_of b }) (record {
        base = no_base;
        first =
            widened lasts a;
        second = widened lasts b;
      })
      → Lies lasts values (fit lasts both.base (ends both.first both.second)) z
  together_at true ends a b x y z e la lb word picks both is =
      let s = same_sums a.base b.base values lasts below (small_of lasts values below a x la) (small_of lasts values below b y lb) e in
      rw is
      (fit_lies lasts values below a.base (ends (ends_of a) (ends_of b)) z word
      (λ l h. (
        picks.below (ends_of a) (ends_of b) (more_sum a.base values) (less_sum a.base values) la.low (omega (arith, lb.low, s)),
        picks.above (ends_of a)
            (ends_of b) (more_sum a.base values) (less_sum a.base values) la.high (omega (arith, lb.high, s)),
      )))
  together_at false ends a b x y z e la lb word picks both is =
      let wa = widened_stands lasts values below a x la in
      let wb = widened_stands lasts values below b y lb in
      rw is
      (plain_lies lasts values below (ends (widened lasts a) (widened lasts b)) z word
      (λ l h. (
        omega (arith, picks.below (widened lasts a) (widened lasts b) 0 0 (omega (arith, wa.low)) (omega (arith, wb.low))),
        omega
            (arith, picks.above (widened lasts a) (widened lasts b) 0 0 (omega (arith, wa.high)) (omega (arith, wb.high))),
      )))

  together_lies : (ends : Ends → Ends → Ends) (a b : Range) (x y z : ℕ) → Lies lasts values a x → Lies lasts values b y → z < 2 ^ 32
      → Picks ends (spot x) (spot y) (spot z) → Lies lasts values (together lasts ends a b) z
  together_lies ends a b x y z la lb word picks = together_at (same_base a.base b.base) ends a b x y z refl la lb word picks (aligned lasts a b) refl

  truth_lies : (test : Bool) → Lies lasts values truths (truth test)
  truth_lies true = between_lies lasts values below origin (origin + 1) 1 (omega arith) (omega arith) (omega arith) (omega arith) (omega arith)
  truth_lies false = between_lies lasts values below origin (origin + 1) 0 (omega arith) (omega arith) (omega arith) (omega arith) (omega arith)

  operated_lies : (operation : Operation) (a b : Range) (x y : ℕ) → Lies lasts values a x → Lies lasts values b y
      → Lies lasts values (operated lasts operation a b) (applied operation x y)
  operated_lies op.Add a b x y la lb = added_lies a b x y la lb
  operated_lies op.Subtract a b x y la lb = subtracted_lies a b x y la lb
  operated_lies op.Multiply a b x y la lb = multiplied_lies lasts values below a b x y la lb
  operated_lies op.Minimum a b x y la lb = together_lies lesser a b x y (minimum x y) la lb (one_of_two (less y x) y x lb.word la.word)
      (picks_least (spot x) (spot y) (spot (minimum x y)) (spot_minimum x y))
  operated_lies op.Maximum a b x y la lb = together_lies greater a b x y (maximum x y) la lb (one_of_two (less x y) y x lb.word la.word)
      (picks_greatest (spot x) (spot y) (spot (maximum x y)) (spot_maximum x y))
  operated_lies op.Less a b x y la lb = truth_lies (less x y)
  operated_lies op.LessOrEqual a b x y la lb = truth_lies (not (less y x))
  operated_lies op.Greater a b x y la lb = truth_lies (less y x)
  operated_lies op.GreaterOrEqual a b x y la lb = truth_lies (not (less x y))
  operated_lies op.Equal a b x y la lb = truth_lies (x == y)
  operated_lies op.NotEqual a b x y la lb = truth_lies (not (x == y))

  select_lies : (test : Bool) (a b : Range) (x y : ℕ) → Lies lasts values a x → Lies lasts values b y
      → Lies lasts values (together lasts hull a b) (cond test y x)
  select_lies true a b x y la lb = together_lies hull a b x y y la lb lb.word (picks_second (spot x) (spot y))
  select_lies false a b x y la lb = together_lies hull a b x y x la lb la.word (picks_first (spot x) (spot y))

  -- ---- points

  all_lie_both : (a b : List ReadRange) (p q : List Point) → AllLie lasts values a p → AllLie lasts values b q → AllLie lasts values (a ++ b) (p ++ q)
  all_lie_both [] b [] q la lb = lb
  all_lie_both [] b (point ∷ p) q la lb = absurd la
  all_lie_both (first ∷ a) b [] q la lb = absurd la
  all_lie_both (first ∷ a) b (point ∷ p) q la lb = (la.0, all_lie_both a b p q la.1 lb)

  module _ (reads : Reads) (inputs : List Input) (words : AnswerWords inputs reads) (is_inlined : ℕ → Bool) where
    byte_lies : (is_bytes : Bool) (x : ℕ) → x < 2 ^ 32 → (is_bytes ≡ true → x < 256)
        → Lies lasts values (if is_bytes then between origin (origin + 255) else every) x
    byte_lies true x word byte = let b = byte refl in between_lies lasts values below origin (origin + 255) x word (omega arith) (omega (arith, b))
        (omega (arith, b)) (omega arith)
    byte_lies false x word byte = every_lies lasts values below x word

    pixel_lies : (func_index x y : ℕ) (own_input : Option Input) → x < 2 ^ 32 → y < 2 ^ 32
        → slice_get inputs func_index ≡ own_input
        → Lies lasts values (pixels_of own_input) (reads (sources.Input func_index) x y)
    pixel_lies func_index x y None wx wy is = every_lies lasts values below (reads (sources.Input func_index) x y) (words.words (sources.Input func_index) x y wx wy)
    pixel_lies func_index x y (Some input) wx wy is =
        byte_lies input.is_bytes (reads (sources.Input func_index) x y) (words.words (sources.Input func_index) x y wx wy) (λ held. words.bytes func_index input is held x y)

    called_lies : (s : Source) (x y : ℕ) → x < 2 ^ 32 → y < 2 ^ 32 → Lies lasts values (called inputs s) (reads s x y)
    called_lies (sources.Input func_index) x y wx wy = pixel_lies func_index x y (slice_get inputs func_index) wx wy
        refl
    called_lies (sources.Func func_index) x y wx wy = every_lies lasts values below (reads (sources.Func func_index) x y) (words.words (sources.Func func_index) x y wx wy)

    abbrev R : Ranged → Seen → Type 0
    R = Covers lasts values

    -- a read after others
    one_more : (s : Source) (before : List ReadRange) (points : List Point) (x y : Range) (v w : ℕ) → AllLie lasts values before points → Lies lasts values x v
        → Lies lasts values y w
        → AllLie lasts values (before ++ (record { source = s; x = x; y = y } ∷ [])) (points ++ (record { source = s; x = v; y = w } ∷ []))
    one_more s before points x y v w all lx ly =
        all_lie_both before (record { source = s; x = x; y = y } ∷ []) points (record { source = s; x = v; y = w } ∷ []) all (
          record {
            source = refl;
            x =
                lx;
            y = ly;
          },
          tt,
        )

    levels : RelatesLevels R is_inlined (ranging lasts inputs) (seeing reads)
    unfolding ranging seeing
    levels (layer.Number n) kept = record { value = literal_lies lasts values below n (let l = leb-true n 0x7fffffff kept in omega (arith, l)); points = tt }
    levels (layer.Variable v) kept = absurd cc
    levels (layer.Binary operation a b) kept = record {
      value = operated_lies operation a.left.range b.left.range a.right.value b.right.value a.is.value b.is.value;
      points = all_lie_both a.left.asked b.left.asked a.right.points b.right.points a.is.points b.is.points;
    }
    levels (layer.Divide a n) kept = record {
      value = divided_lies lasts values below a.left.range a.right.value n (leb-true 1 n (and_parts (nat_le 1 n) (nat_le n 0x7fffffff) kept).0) a.is.value;
      points = a.is.points;
    }
    levels (layer.Remainder a n) kept = record {
      value = let k = and_parts (nat_le 1 n) (nat_le n 0x7fffffff) kept in remainder_lies lasts values below a.right.value n (leb-true 1 n k.0)
          (leb-true n 0x7fffffff k.1);
      points = a.is.points;
    }
    levels (layer.Select c a b) kept = record {
      value = select_lies (c.right.value == 0) a.left.range b.left.range a.right.value b.right.value a.is.value b.is.value;
      points = all_lie_both c.left.asked (a.left.asked ++ b.left.asked) c.right.points (a.right.points ++ b.right.points) c.is.points
          (all_lie_both a.left.asked b.left.asked a.right.points b.right.points a.is.points b.is.points);
    }
    levels (layer.Call1 s a) kept = record {
      value = called_lies s a.right.value 0 a.is.value.word (omega arith);
      points = one_more s a.left.asked a.right.points a.left.range (literal lasts 0) a.right.value 0 a.is.points a.is.value (literal_lies lasts values below 0
          (omega arith));
    }
    levels (layer.Call2 s a b) kept = record {
      value = called_lies s a.right.value b.right.value a.is.value.word b.is.value.word;
      points = one_more s (a.left.asked ++ b.left.asked) (a.right.points ++ b.right.points) a.left.range b.left.range a.right.value b.right.value
          (all_lie_both a.left.asked b.left.asked a.right.points b.right.points a.is.points b.is.points) a.is.value b.is.value;
    }

    args : RelatesArguments R (ranging lasts inputs) (seeing reads)
    unfolding ranging seeing
    args x z r = record { value = r.value; points = tt }

    seconds : (y : Option Ranged) (u : Option Seen) → RelatesSeconds R y u → AllLie lasts values (second_asked y) (second_points u)
    seconds None None r = tt
    seconds None (Some z) r = absurd r
    seconds (Some y) None r = absurd r
    seconds (Some y) (Some z) r = r.points

    calls : RelatesCalls R (ranging lasts inputs) (seeing reads)
    unfolding ranging seeing
    calls func v x y w z u r s t = record {
      value = r.value;
      points = all_lie_both x.asked (second_asked y ++ v.asked) z.points (second_points u ++ w.points) s.points
          (all_lie_both (second_asked y) v.asked (second_points u) w.points (seconds y u t) r.points);
    }

pub ranges_cover : RangesCover
ranges_cover lasts values below reads inputs words is_inlined funcs are count has ranges environment lie e kept =
    folds_are_related (Covers lasts values) (ranging lasts inputs) (seeing reads) is_inlined inputs funcs are
    (levels lasts values below reads inputs words is_inlined) (args lasts values below reads inputs words is_inlined) (calls lasts values below reads inputs
    words is_inlined)
    count has (unasked_variable ranges) (seen_variable environment) (λ v held. record { value = lie v held; points = tt }) e kept

-- ---- updates

module _ (lasts values : List ℕ) (below : Below values lasts) (reads : Reads) (inputs : List Input) (words : AnswerWords inputs reads) (is_inlined : ℕ
    → Bool) (funcs : List Func)
    (are : AreFuncs inputs funcs) (count : ℕ) (own_calls : OwnCalls) (has : Variable → Bool) (ranges : Variable → Range) (environment : Environment)
    (lie : (around : Bool) (v : Variable) → has v ≡ true → Lies lasts values (ranges_where lasts ranges around v) (variable environment v)) where
  -- both where arguments may be anywhere and where not
  abbrev BothWays : (Bool → Ranged) → Seen → Type 0
  BothWays r s = (around : Bool) → Covers lasts values (r around) s

  abbrev within : Inside Ranged
  within = inside (ranging lasts inputs) is_inlined funcs count

  abbrev seen_within : Inside Seen
  seen_within = inside (seeing reads) is_inlined funcs count

  abbrev at : Bool → Both BothWays → Both (Covers lasts values)
  at around part = record { left = part.left around; right = part.right; is = part.is around }

  one_way : (around : Bool) → KeptLevels (Covers lasts values) (is_read inputs funcs count) has
      (through_at (ranging lasts inputs) within (unasked_variable (ranges_where lasts ranges around)))
      (through_at (seeing reads) seen_within (seen_variable environment))
  one_way around =
      levels_related (Covers lasts values) (ranging lasts inputs) (seeing reads) is_inlined inputs funcs are
      (levels lasts values below reads inputs words is_inlined) (args lasts values below reads inputs words is_inlined) (calls lasts values below reads inputs
      words is_inlined)
      count has (unasked_variable (ranges_where lasts ranges around)) (seen_variable environment) (λ v held. record { value = lie around v held; points = tt })

  both_ways : KeptLevels BothWays (is_read inputs funcs count) has
      (λ level around. through_at (ranging lasts inputs) within (unasked_variable (ranges_where lasts ranges around)) (chosen own_calls around level))
      (through_at (seeing reads) seen_within (seen_variable environment))
  both_ways (layer.Number n) kept around = one_way around (layer.Number n) kept
  both_ways (layer.Variable v) kept around = one_way around (layer.Variable v) kept
  both_ways (layer.Binary op a b) kept around = one_way around (layer.Binary op (at around a) (at around b)) kept
  both_ways (layer.Divide a n) kept around = one_way around (layer.Divide (at around a) n) kept
  both_ways (layer.Remainder a n) kept around = one_way around (layer.Remainder (at around a) n) kept
  both_ways (layer.Select c a b) kept around = one_way around (layer.Select (at around c) (at around a) (at around b)) kept
  both_ways (layer.Call1 s a) kept around = one_way around (layer.Call1 s (at (is_anywhere own_calls around s own_calls.first_in_place) a)) kept
  both_ways (layer.Call2 s a b) kept around =
      one_way around (layer.Call2 s (at (is_anywhere own_calls around s own_calls.first_in_place) a) (at (is_anywhere own_calls around s own_calls.second_in_place) b)) kept

  pub update_covers : (e : Expr) → keeps (is_read inputs funcs count) has e ≡ true
      → BothWays (ranged_update lasts inputs is_inlined funcs count own_calls ranges e) (inlined (seeing reads) is_inlined funcs count (seen_variable environment) e)
  unfolding ranged_update through
  update_covers e kept =
      kept_folds_related BothWays (is_read inputs funcs count) has
      (λ level around. through_at (ranging lasts inputs) within (unasked_variable (ranges_where lasts ranges around)) (chosen own_calls around level))
      (through_at (seeing reads) seen_within (seen_variable environment)) both_ways e kept

pub update_ranges_cover : UpdateRangesCover
update_ranges_cover lasts values below reads inputs words is_inlined funcs are count own has ranges environment lie e kept around =
    update_covers lasts values below reads inputs words is_inlined funcs are count own has ranges environment lie e kept around
