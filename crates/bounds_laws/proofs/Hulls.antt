-- Hulls of ranges stay within the words, and what lies in one of two ranges lies in their hull.
use Rattle.std.proofs.Common.{◌≡◌, ℕ, ◌+◌, ◌≤◌, Bool, true, false, cond, List, refl, arith}
use Rattle.std.specs.Prelude.{◌&&◌, nat_le}
use Rattle.std.proofs.lemmas.Bool.{leb-true}
use Rattle.bounds_ranges.specs.declared.bases.Multiple.{Multiple}
use Rattle.bounds_ranges.specs.declared.ranges.CommonBase.{CommonBase}
use Rattle.bounds_ranges.specs.declared.ranges.Ends.{Ends}
use Rattle.bounds_ranges.specs.declared.ranges.Range.{Range}
use Rattle.bounds_ranges.specs.Ranges.{no_base, same_base, more_sum, less_sum, every, ends_of, fit, IsFit, widened, aligned, together, hull}
use Rattle.bounds_ranges.specs.Laws.{Below, Lies}
use Rattle.bounds_ranges.specs.Numbers.{least, greatest}
use Rattle.bounds_ranges.proofs.Lying.{small_of, widened_stands, fit_lies, plain_lies}
use Rattle.bounds_ranges.proofs.Sums.{Small, no_more, no_less, same_sums}

-- ---- within the words

pub every_fits : (lasts : List ℕ) → IsFit lasts every
every_fits lasts = record { low = omega (arith, no_less lasts); ordered = omega arith; high = omega (arith, no_more lasts) }

fits_by : (lasts : List ℕ) (base : List Multiple) (ends : Ends) (test other : Bool)
    → nat_le (least + less_sum base lasts) ends.low ≡ test → nat_le (ends.high + more_sum base lasts) greatest ≡ other → ends.low ≤ ends.high
    → IsFit lasts (cond (test && other) (record { base = base; low = ends.low; high = ends.high }) every)
fits_by lasts base ends true true e f ordered =
    record { low = leb-true (least + less_sum base lasts) ends.low e; ordered = ordered; high = leb-true (ends.high + more_sum base lasts) greatest f }
fits_by lasts base ends true false e f ordered = every_fits lasts
fits_by lasts base ends false other e f ordered = every_fits lasts

pub fit_fits : (lasts : List ℕ) (base : List Multiple) (ends : Ends) → ends.low ≤ ends.high → IsFit lasts (fit lasts base ends)
fit_fits lasts base ends ordered =
    fits_by lasts base ends (nat_le (least + less_sum base lasts) ends.low) (nat_le (ends.high + more_sum base lasts) greatest) refl refl ordered

-- the ends of two ranges over one base
abbrev Common : List ℕ → Range → Range → Bool → CommonBase
Common lasts a b test = cond test (record { base = a.base; first = ends_of a; second = ends_of b }) (record {
  base = no_base;
  first = widened lasts a;
  second =
      widened lasts b;
})

hull_by : (lasts : List ℕ) (a b : Range) (test : Bool) (both : CommonBase) → both ≡ Common lasts a b test → IsFit lasts a → IsFit lasts b
    → IsFit lasts (fit lasts both.base (hull both.first both.second))
hull_by lasts a b true both is fa fb = rw is (fit_fits lasts a.base (hull (ends_of a) (ends_of b)) (omega (arith, fa.ordered, fb.ordered)))
hull_by lasts a b false both is fa fb = rw is (fit_fits lasts no_base (hull (widened lasts a) (widened lasts b)) (omega (arith, fa.ordered, fb.ordered)))

pub hull_fits : (lasts : List ℕ) (a b : Range) → IsFit lasts a → IsFit lasts b → IsFit lasts (together lasts hull a b)
hull_fits lasts a b fa fb = hull_by lasts a b (same_base a.base b.base) (aligned lasts a b) refl fa fb

pub small_fit : (lasts : List ℕ) (a : Range) → IsFit lasts a → Small a.base lasts
small_fit lasts a fits = record { more = omega (arith, fits.low, fits.ordered, fits.high); less = omega (arith, fits.low, fits.ordered, fits.high) }

-- ---- what lies there

module _ (lasts values : List ℕ) (below : Below values lasts) where
  first_by : (a b : Range) (x : ℕ) (test : Bool) (both : CommonBase) → both ≡ Common lasts a b test → Lies lasts values a x
      → Lies lasts values (fit lasts both.base (hull both.first both.second)) x
  first_by a b x true both is la =
      rw is (fit_lies lasts values below a.base (hull (ends_of a) (ends_of b)) x la.word (λ l h. (omega (arith, la.low), omega (arith, la.high))))
  first_by a b x false both is la =
      let wa = widened_stands lasts values below a x la in
      rw is (plain_lies lasts values below (hull (widened lasts a) (widened lasts b)) x la.word (λ l h. (omega (arith, wa.low), omega (arith, wa.high))))

  pub hull_first : (a b : Range) (x : ℕ) → Lies lasts values a x → Lies lasts values (together lasts hull a b) x
  hull_first a b x la = first_by a b x (same_base a.base b.base) (aligned lasts a b) refl la

  second_by : (a b : Range) (x : ℕ) (test : Bool) (both : CommonBase) → same_base a.base b.base ≡ test → both ≡ Common lasts a b test → IsFit lasts a
      → Lies lasts values b x
      → Lies lasts values (fit lasts both.base (hull both.first both.second)) x
  second_by a b x true both e is fa lb =
      let s = same_sums a.base b.base values lasts below (small_fit lasts a fa) (small_of lasts values below b x lb) e in
      rw is (fit_lies lasts values below a.base (hull (ends_of a) (ends_of b)) x lb.word (λ l h. (omega (arith, lb.low, s), omega (arith, lb.high, s))))
  second_by a b x false both e is fa lb =
      let wb = widened_stands lasts values below b x lb in
      rw is (plain_lies lasts values below (hull (widened lasts a) (widened lasts b)) x lb.word (λ l h. (omega (arith, wb.low), omega (arith, wb.high))))

  pub hull_second : (a b : Range) (x : ℕ) → IsFit lasts a → Lies lasts values b x → Lies lasts values (together lasts hull a b) x
  hull_second a b x fa lb = second_by a b x (same_base a.base b.base) (aligned lasts a b) refl refl fa lb
