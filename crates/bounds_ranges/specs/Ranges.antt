-- Ranges, and what operations make of them.
--
-- A range is a base and two ends: what lies in it is between base + low and base + high, as signed numbers. An end is
-- kept with 2^62 added, so that it is no negative number. `lasts` has the greatest value of each loop of the base.
-- This project's own.
use Rattle.std.specs.Prelude.{ℕ, ◌+◌, ◌-◌, ◌*◌, ◌/◌, ◌≤◌, ◌==◌, ◌&&◌, Bool, nat_le, min, max, if◌then◌else◌, List, ◌^◌, true, [], ◌∷◌}
use Rattle.halide_pipeline.specs.declared.expressions.Operation.{Operation}
use Rattle.halide_pipeline.specs.declared.expressions.Operation.TheVariants as op
use Rattle.bounds_ranges.specs.declared.bases.Multiple.{Multiple}
use Rattle.bounds_ranges.specs.declared.ranges.CommonBase.{CommonBase}
use Rattle.bounds_ranges.specs.declared.ranges.Ends.{Ends}
use Rattle.bounds_ranges.specs.declared.ranges.Range.{Range}
use Rattle.bounds_ranges.specs.Numbers.{origin, least, greatest}

-- ---- Bases of ranges: sums of whole multiples of loops, a multiple for each loop that a stage can have.

-- A multiple past this bound counts as the bound. Only one of a loop that runs once can be so great, since otherwise
-- some value of the loop would leave the signed words; and no value depends on that one.
abbrev pub most_multiple : ℕ
most_multiple = 2 ^ 40

abbrev pub cut : ℕ → ℕ
cut n = min n most_multiple

-- the number more - less, of which one is 0
abbrev pub difference : ℕ → ℕ → Multiple
difference more less = record { more = more - less; less = less - more }

abbrev pub add_multiple : Multiple → Multiple → Multiple
add_multiple a b = difference (cut a.more + cut b.more) (cut a.less + cut b.less)

abbrev pub opposite : Multiple → Multiple
opposite a = record { more = a.less; less = a.more }

abbrev pub times_multiple : ℕ → Multiple → Multiple
times_multiple n a = record { more = cut (a.more * n); less = cut (a.less * n) }

abbrev pub zero_multiple : Multiple
zero_multiple = record { more = 0; less = 0 }

-- the base 0
abbrev pub no_base : List Multiple
no_base = zero_multiple ∷ zero_multiple ∷ zero_multiple ∷ zero_multiple ∷ zero_multiple ∷ []

abbrev pub add_base : List Multiple → List Multiple → List Multiple
add_base [] bs = bs
add_base (a ∷ aas) [] = a ∷ aas
add_base (a ∷ aas) (b ∷ bs) = add_multiple a b ∷ add_base aas bs

abbrev pub negated : List Multiple → List Multiple
negated [] = []
negated (a ∷ aas) = opposite a ∷ negated aas

abbrev pub times_base : ℕ → List Multiple → List Multiple
times_base n [] = []
times_base n (a ∷ aas) = times_multiple n a ∷ times_base n aas

-- multiples are equal
abbrev pub same_multiple : Multiple → Multiple → Bool
same_multiple a b = cut a.more + cut b.less == cut b.more + cut a.less

abbrev pub same_base : List Multiple → List Multiple → Bool
same_base [] [] = true
same_base [] (b ∷ bs) = same_multiple zero_multiple b && same_base [] bs
same_base (a ∷ aas) [] = same_multiple a zero_multiple && same_base aas []
same_base (a ∷ aas) (b ∷ bs) = same_multiple a b && same_base aas bs

-- what is added, and what is taken away, where the loops have these values
abbrev pub more_sum : List Multiple → List ℕ → ℕ
more_sum [] values = 0
more_sum (m ∷ ms) [] = 0
more_sum (m ∷ ms) (v ∷ values) = m.more * v + more_sum ms values

abbrev pub less_sum : List Multiple → List ℕ → ℕ
less_sum [] values = 0
less_sum (m ∷ ms) [] = 0
less_sum (m ∷ ms) (v ∷ values) = m.less * v + less_sum ms values

-- ---- ranges

abbrev pub between : ℕ → ℕ → Range
between low high = record { base = no_base; low = low; high = high }

-- all words
abbrev pub every : Range
every = between least greatest

abbrev pub ends_of : Range → Ends
ends_of a = record { low = a.low; high = a.high }

-- The range with this base and these ends; every word, where some values of the loops would leave the words.
abbrev pub fit : List ℕ → List Multiple → Ends → Range
fit lasts base ends =
    if nat_le (least + less_sum base lasts) ends.low && nat_le (ends.high + more_sum base lasts) greatest
    then record { base = base; low = ends.low; high = ends.high } else every

-- a range that has two ends and stays within the words, whatever the values of the loops
pub record IsFit (lasts : List ℕ) (a : Range) : Type 0 where
  pub low : least + less_sum a.base lasts ≤ a.low
  pub ordered : a.low ≤ a.high
  pub high : a.high + more_sum a.base lasts ≤ greatest

-- the ends over all values of the loops
abbrev pub widened : List ℕ → Range → Ends
widened lasts a = record { low = a.low - less_sum a.base lasts; high = a.high + more_sum a.base lasts }

abbrev pub added : List ℕ → Range → Range → Range
added lasts a b = fit lasts (add_base a.base b.base) (record { low = a.low + b.low - origin; high = a.high + b.high - origin })

abbrev pub subtracted : List ℕ → Range → Range → Range
subtracted lasts a b = fit lasts (add_base a.base (negated b.base)) (record { low = a.low + origin - b.high; high = a.high + origin - b.low })

-- the ends of two ranges of one base, widened first if their bases differ
abbrev pub aligned : List ℕ → Range → Range → CommonBase
aligned lasts a b =
    if same_base a.base b.base then record { base = a.base; first = ends_of a; second = ends_of b }
    else record { base = no_base; first = widened lasts a; second = widened lasts b }

abbrev pub together : List ℕ → (Ends → Ends → Ends) → Range → Range → Range
together lasts ends a b = let both = aligned lasts a b in fit lasts both.base (ends both.first both.second)

abbrev pub lesser : Ends → Ends → Ends
lesser a b = record { low = min a.low b.low; high = min a.high b.high }

abbrev pub greater : Ends → Ends → Ends
greater a b = record { low = max a.low b.low; high = max a.high b.high }

abbrev pub hull : Ends → Ends → Ends
hull a b = record { low = min a.low b.low; high = max a.high b.high }

-- ---- products

-- the product of two ends
abbrev pub times_end : ℕ → ℕ → ℕ
times_end p q =
    if nat_le origin p
    then (if nat_le origin q then origin + (p - origin) * (q - origin) else origin - (p - origin) * (origin - q))
    else (if nat_le origin q then origin - (origin - p) * (q - origin) else origin + (origin - p) * (origin - q))

-- from the lesser to the greater
abbrev pub ordered : ℕ → ℕ → Ends
ordered p q = record { low = min p q; high = max p q }

abbrev pub scaled_base : ℕ → List Multiple → List Multiple
scaled_base c base = if nat_le origin c then times_base (c - origin) base else times_base (origin - c) (negated base)

-- a range times a number
abbrev pub scaled : List ℕ → Range → ℕ → Range
scaled lasts a c = fit lasts (scaled_base c a.base) (ordered (times_end a.low c) (times_end a.high c))

-- from the least to the greatest of the four products
abbrev pub crossed : Ends → Ends → Ends
crossed a b = hull (ordered (times_end a.low b.low) (times_end a.low b.high)) (ordered (times_end a.high b.low) (times_end a.high b.high))

-- one number, with no base
abbrev pub is_number : Range → Bool
is_number a = same_base a.base no_base && a.low == a.high

abbrev pub multiplied : List ℕ → Range → Range → Range
multiplied lasts a b =
    if is_number b then scaled lasts a b.low
    else if is_number a then scaled lasts b a.low
    else fit lasts no_base (crossed (widened lasts a) (widened lasts b))

-- ---- quotients

-- an end divided, rounded to minus infinity
abbrev pub divided_end : ℕ → ℕ → ℕ
divided_end end c = if nat_le origin end then origin + (end - origin) / c else origin - 1 - (origin - 1 - end) / c

abbrev pub divided_ends : Ends → ℕ → Ends
divided_ends a c = record { low = divided_end a.low c; high = divided_end a.high c }

abbrev pub divided : List ℕ → Range → ℕ → Range
divided lasts a c = if c == 0 then every else fit lasts no_base (divided_ends (widened lasts a) c)

-- from 0 to the divisor less 1
abbrev pub remainders : List ℕ → ℕ → Range
remainders lasts c = if c == 0 then every else fit lasts no_base (record { low = origin; high = origin + c - 1 })

-- ---- numbers

abbrev pub literal : List ℕ → ℕ → Range
literal lasts n = fit lasts no_base (record { low = origin + n; high = origin + n })

-- ---- comparisons

-- 0 and 1
abbrev pub truths : Range
truths = between origin (origin + 1)

abbrev pub operated : List ℕ → Operation → Range → Range → Range
operated lasts op.Add a b = added lasts a b
operated lasts op.Subtract a b = subtracted lasts a b
operated lasts op.Multiply a b = multiplied lasts a b
operated lasts op.Minimum a b = together lasts lesser a b
operated lasts op.Maximum a b = together lasts greater a b
operated lasts _ a b = truths
