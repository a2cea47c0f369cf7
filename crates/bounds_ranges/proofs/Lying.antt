-- What lies in a range.
use Rattle.std.proofs.Common.{◌≡◌, ℕ, ◌+◌, ◌^◌, ◌<◌, ◌≤◌, Bool, true, false, cond, List, refl, arith}
use Rattle.std.specs.Prelude.{◌&&◌, nat_le}
use Rattle.std.proofs.lemmas.Bool.{leb-true}
use Rattle.bounds_ranges.specs.declared.bases.Multiple.{Multiple}
use Rattle.bounds_ranges.specs.declared.ranges.Ends.{Ends}
use Rattle.bounds_ranges.specs.declared.ranges.Range.{Range}
use Rattle.bounds_ranges.specs.Ranges.{no_base, more_sum, less_sum, between, every, fit, widened}
use Rattle.bounds_ranges.specs.Numbers.{least, greatest, spot}
use Rattle.bounds_ranges.specs.Laws.{Below, Lies}
use Rattle.bounds_ranges.proofs.Sums.{Small, more_below, less_below, no_more, no_less}

-- The word is between two ends, which are those of words.
pub record Stands (ends : Ends) (x : ℕ) : Type 0 where
  pub least_low : least ≤ ends.low
  pub low : ends.low ≤ spot x
  pub high : spot x ≤ ends.high
  pub high_greatest : ends.high ≤ greatest

module _ (lasts values : List ℕ) (below : Below values lasts) where
  -- between two ends, with no base
  pub between_lies : (low high x : ℕ) → x < 2 ^ 32 → least ≤ low → low ≤ spot x → spot x ≤ high → high ≤ greatest → Lies lasts values (between low high) x
  between_lies low high x word l s t h =
      record {
        word = word;
        low = omega (arith, s, no_more values);
        high = omega (arith, t, no_less values);
        fits_low = omega (arith, l, no_less lasts);
        fits_high = omega (arith, h, no_more lasts);
      }

  pub every_lies : (x : ℕ) → x < 2 ^ 32 → Lies lasts values every x
  every_lies x word = between_lies least greatest x word (omega arith) (omega arith) (omega arith) (omega arith)

  pub small_of : (a : Range) (x : ℕ) → Lies lasts values a x → Small a.base lasts
  small_of a x la = record {
    more = omega (arith, la.low, la.high, la.fits_low, la.fits_high);
    less = omega (arith, la.low, la.high, la.fits_low, la.fits_high);
  }

  pub widened_stands : (a : Range) (x : ℕ) → Lies lasts values a x → Stands (widened lasts a) x
  widened_stands a x la =
      let m = more_below a.base values lasts below in
      let n = less_below a.base values lasts below in
      record {
        least_low = omega (arith, la.fits_low);
        low = omega (arith, la.low, la.fits_low, n, m);
        high = omega (arith, la.high, m, n);
        high_greatest = omega (arith, la.fits_high);
      }

  -- between the ends, if the range fits
  abbrev pub Between : List Multiple → Ends → ℕ → Type 0
  Between base ends x =
      least + less_sum base lasts ≤ ends.low → ends.high + more_sum base lasts ≤ greatest
      → (ends.low + more_sum base values ≤ spot x + less_sum base values) × (spot x + less_sum base values ≤ ends.high + more_sum base values)

  fit_at : (test other : Bool) (base : List Multiple) (ends : Ends) (x : ℕ)
      → nat_le (least + less_sum base lasts) ends.low ≡ test → nat_le (ends.high + more_sum base lasts) greatest ≡ other
      → x < 2 ^ 32 → Between base ends x → Lies lasts values (cond (test && other) (record { base = base; low = ends.low; high = ends.high }) every) x
  fit_at true true base ends x e f word inside =
      let l = leb-true (least + less_sum base lasts) ends.low e in
      let h = leb-true (ends.high + more_sum base lasts) greatest f in
      let b = inside l h in
      record { word = word; low = b.0; high = b.1; fits_low = l; fits_high = h }
  fit_at true false base ends x e f word inside = every_lies x word
  fit_at false other base ends x e f word inside = every_lies x word

  pub fit_lies : (base : List Multiple) (ends : Ends) (x : ℕ) → x < 2 ^ 32 → Between base ends x → Lies lasts values (fit lasts base ends) x
  fit_lies base ends x word inside =
      fit_at (nat_le (least + less_sum base lasts) ends.low) (nat_le (ends.high + more_sum base lasts) greatest) base ends x refl refl word inside

  -- with no base
  pub plain_lies : (ends : Ends) (x : ℕ) → x < 2 ^ 32 → (least ≤ ends.low → ends.high ≤ greatest → (ends.low ≤ spot x) × (spot x ≤ ends.high))
      → Lies lasts values (fit lasts no_base ends) x
  plain_lies ends x word inside = fit_lies no_base ends x word (λ l h.
      let b = inside (omega (arith, l, no_less lasts)) (omega (arith, h, no_more lasts)) in
      (omega (arith, b.0, no_more values, no_less values), omega (arith, b.1, no_more values, no_less values)))
