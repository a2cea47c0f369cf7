-- Small ranges, by computing.
use Rattle.std.proofs.Common.{◌≡◌, ℕ, ◌+◌, ◌-◌, List, [], ◌∷◌, refl}
use Rattle.bounds_ranges.specs.declared.ranges.Range.{Range}
use Rattle.bounds_ranges.specs.Ranges.{zero_multiple, between, every, added, subtracted, multiplied, divided, remainders, literal, together, lesser, hull}
use Rattle.bounds_ranges.specs.Numbers.{origin}

-- one loop with the values 0 to 5
abbrev lasts : List ℕ
lasts = 5 ∷ 0 ∷ 0 ∷ 0 ∷ 0 ∷ []

-- so often that loop, and from 0 to a number
abbrev strip : ℕ → ℕ → Range
strip stride most = record {
  base = record { more = stride; less = 0 } ∷ zero_multiple ∷ zero_multiple ∷ zero_multiple ∷ zero_multiple ∷ [];
  low =
      origin;
  high = origin + most;
}

abbrev seven : Range
seven = between (origin - 7) (origin + 7)

-- a sum past the words is every word
past : added lasts every (literal lasts 1) ≡ every
past = refl

-- -7..7 times -2
negative : multiplied lasts seven (between (origin - 2) (origin - 2)) ≡ between (origin - 14) (origin + 14)
negative = refl

-- -2..3 times -5..4
two_ranges : multiplied lasts (between (origin - 2) (origin + 3)) (between (origin - 5) (origin + 4)) ≡ between (origin - 15) (origin + 12)
two_ranges = refl

-- rounded to minus infinity
halves : divided lasts seven 2 ≡ between (origin - 4) (origin + 3)
halves = refl

-- 4v + 0..3: doubled, less itself, by 4 and modulo 4
doubled : multiplied lasts (strip 4 3) (literal lasts 2) ≡ strip 8 6
doubled = refl

apart : subtracted lasts (strip 4 3) (strip 4 3) ≡ between (origin - 3) (origin + 3)
apart = refl

quarters : divided lasts (strip 4 3) 4 ≡ between origin (origin + 5)
quarters = refl

places : remainders lasts 4 ≡ between origin (origin + 3)
places = refl

-- of one base by the ends, of two bases widened
one_base : together lasts lesser (strip 4 3) (strip 4 1) ≡ strip 4 1
one_base = refl

two_bases : together lasts hull (strip 4 3) (literal lasts 30) ≡ between origin (origin + 30)
two_bases = refl
