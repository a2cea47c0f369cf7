-- A fold of hulls is the least range that holds all of a list, where ranges fit and their bases are normal. Without the latter two ranges
-- of equal bases could have a hull that doesn't fit, since its base could add and take away more than that of one of them.
use Rattle.std.proofs.Common.{◌≡◌, ℕ, zero, suc, ◌+◌, ◌-◌, ◌*◌, ◌^◌, ◌≤◌, Bool, true, false, cond, List, [], ◌∷◌, ◌⊎◌, refl, sym, ap, ◌∙◌, subst, arith, inl}
use Rattle.std.proofs.Common.{inr}
use Rattle.std.specs.Prelude.{◌==◌, ◌&&◌, ◌||◌, nat_le, min, max, map}
use Rattle.std.specs.List.{AllByRecursion, list_all, list_any}
use Rattle.std.proofs.lemmas.Bool.{and_parts, and_from, or_cases, or_left, or_right, leb-true, le-leb, eqb-true, eq-eqb, cases_lt}
use Rattle.std.proofs.Math.Nat.{mul-le-mul_left}
use Rattle.bounds_ranges.specs.declared.bases.Multiple.{Multiple}
use Rattle.bounds_ranges.specs.declared.ranges.CommonBase.{CommonBase}
use Rattle.bounds_ranges.specs.declared.ranges.Ends.{Ends}
use Rattle.bounds_ranges.specs.declared.ranges.Range.{Range}
use Rattle.bounds_ranges.specs.Ranges.{cut, zero_multiple, no_base, same_multiple, same_base, more_sum, less_sum, ends_of, fit, IsFit, widened, together, hull}
use Rattle.bounds_ranges.specs.Numbers.{least, greatest}
use Rattle.bounds_ranges.proofs.Sums.{Small, no_more, no_less}
use Rattle.bounds_laws.proofs.Hulls.{hull_fits, small_fit}
use Rattle.bounds_laws.specs.Least.{IsSpan, IsLeast}

-- ---- normal bases: of each multiple one part is 0

abbrev pub IsNormalMultiple : Multiple → Type 0
IsNormalMultiple m = min m.more m.less ≡ 0

abbrev pub IsNormal : List Multiple → Type 0
IsNormal base = AllByRecursion IsNormalMultiple base

pub none_normal : IsNormal no_base
none_normal = (omega arith, (omega arith, (omega arith, (omega arith, (omega arith, tt)))))

-- Equal normal bases that are small come to the same in both parts.
abbrev Same : List Multiple → List Multiple → List ℕ → Type 0
Same a b lasts = (more_sum a lasts ≡ more_sum b lasts) × (less_sum a lasts ≡ less_sum b lasts)

same_times : (a b : Multiple) (l : ℕ) → a.more * l ≤ 2 ^ 33 → a.less * l ≤ 2 ^ 33 → b.more * l ≤ 2 ^ 33 → b.less * l ≤ 2 ^ 33
    → IsNormalMultiple a → IsNormalMultiple b → same_multiple a b ≡ true → (a.more * l ≡ b.more * l) × (a.less * l ≡ b.less * l)
same_times a b zero am al bm bl na nb e = (omega arith, omega arith)
same_times a b (suc l) am al bm bl na nb e =
    let once : (n : ℕ) → n * 1 ≤ n * suc l = λ n. mul-le-mul_left n (omega arith) in
    let is = eqb-true (cut a.more + cut b.less) (cut b.more + cut a.less) e in
    let more : a.more ≡ b.more = omega (arith, is, once a.more, once a.less, once b.more, once b.less) in
    let less : a.less ≡ b.less = omega (arith, is, once a.more, once a.less, once b.more, once b.less) in
    (ap (λ (n : ℕ). n * suc l) more, ap (λ (n : ℕ). n * suc l) less)

tail_small : (a : Multiple) (aas : List Multiple) (l : ℕ) (lasts : List ℕ) → Small (a ∷ aas) (l ∷ lasts) → Small aas lasts
tail_small a aas l lasts s = record { more = omega (arith, s.more); less = omega (arith, s.less) }

nothing_small : (lasts : List ℕ) → Small [] lasts
nothing_small lasts = record { more = omega arith; less = omega arith }

normal_same : (a b : List Multiple) (lasts : List ℕ) → Small a lasts → Small b lasts → IsNormal a → IsNormal b → same_base a b ≡ true → Same a b lasts
normal_same [] [] lasts sa sb na nb e = (refl, refl)
normal_same [] (b ∷ bs) [] sa sb na nb e = (refl, refl)
normal_same [] (b ∷ bs) (l ∷ lasts) sa sb na nb e =
    let p = and_parts (same_multiple zero_multiple b) (same_base [] bs) e in
    let one = same_times zero_multiple b l (omega arith) (omega arith) (omega (arith, sb.more)) (omega (arith, sb.less)) (omega arith) nb.0 p.0 in
    let rest = normal_same [] bs lasts (nothing_small lasts) (tail_small b bs l lasts sb) tt nb.1 p.1 in
    (omega (arith, one.0, rest.0), omega (arith, one.1, rest.1))
normal_same (a ∷ aas) [] [] sa sb na nb e = (refl, refl)
normal_same (a ∷ aas) [] (l ∷ lasts) sa sb na nb e =
    let p = and_parts (same_multiple a zero_multiple) (same_base aas []) e in
    let one = same_times a zero_multiple l (omega (arith, sa.more)) (omega (arith, sa.less)) (omega arith) (omega arith) na.0 (omega arith) p.0 in
    let rest = normal_same aas [] lasts (tail_small a aas l lasts sa) (nothing_small lasts) na.1 tt p.1 in
    (omega (arith, one.0, rest.0), omega (arith, one.1, rest.1))
normal_same (a ∷ aas) (b ∷ bs) [] sa sb na nb e = (refl, refl)
normal_same (a ∷ aas) (b ∷ bs) (l ∷ lasts) sa sb na nb e =
    let p = and_parts (same_multiple a b) (same_base aas bs) e in
    let one = same_times a b l (omega (arith, sa.more)) (omega (arith, sa.less)) (omega (arith, sb.more)) (omega (arith, sb.less)) na.0 nb.0 p.0 in
    let rest = normal_same aas bs lasts (tail_small a aas l lasts sa) (tail_small b bs l lasts sb) na.1 nb.1 p.1 in
    (omega (arith, one.0, rest.0), omega (arith, one.1, rest.1))

same_refl : (base : List Multiple) → same_base base base ≡ true
same_refl [] = refl
same_refl (m ∷ ms) = and_from (same_multiple m m) (same_base ms ms) (eq-eqb (cut m.more + cut m.less) (cut m.more + cut m.less) refl) (same_refl ms)

-- ---- what has the span of the hull of two has that of the two

module _ (own_ends a b : Ends) (all : List Ends) (span : IsSpan own_ends (hull a b ∷ all)) where
  lowest_by : ((min a.low b.low == own_ends.low) ≡ true) ⊎ (list_any (λ (ends : Ends). ends.low == own_ends.low) all ≡ true) → (a.low ≤ b.low) ⊎ (b.low ≤ a.low)
      → ((a.low == own_ends.low) || ((b.low == own_ends.low) || list_any (λ (ends : Ends). ends.low == own_ends.low)
      all)) ≡ true
  lowest_by (inr any) order = or_right (a.low == own_ends.low) _ (or_right (b.low == own_ends.low) _ any)
  lowest_by (inl here) (inl order) = or_left (a.low == own_ends.low) _ (eq-eqb a.low own_ends.low (omega (arith, order, eqb-true (min a.low b.low) own_ends.low here)))
  lowest_by (inl here) (inr order) = or_right (a.low == own_ends.low) _ (or_left (b.low == own_ends.low)
      _ (eq-eqb b.low own_ends.low (omega (arith, order, eqb-true (min a.low b.low) own_ends.low here))))

  highest_by : ((max a.high b.high == own_ends.high) ≡ true) ⊎ (list_any (λ (ends : Ends). ends.high == own_ends.high) all ≡ true) → (a.high ≤ b.high) ⊎ (b.high ≤ a.high)
      → ((a.high == own_ends.high) || ((b.high == own_ends.high) || list_any
      (λ (ends : Ends). ends.high == own_ends.high) all)) ≡ true
  highest_by (inr any) order = or_right (a.high == own_ends.high) _ (or_right (b.high == own_ends.high) _ any)
  highest_by (inl here) (inr order) = or_left (a.high == own_ends.high) _ (eq-eqb a.high own_ends.high (omega (arith, order, eqb-true (max a.high b.high) own_ends.high here)))
  highest_by (inl here) (inl order) = or_right (a.high == own_ends.high) _ (or_left (b.high == own_ends.high) _ (eq-eqb b.high own_ends.high
      (omega (arith, order, eqb-true (max a.high b.high) own_ends.high here))))

  either : (n m : ℕ) → (n ≤ m) ⊎ (m ≤ n)
  either n m = elim (cases_lt n m) [ inl l ↦ inl (omega (arith, l)) | inr l ↦ inr l ]

  span_of_two : IsSpan own_ends (a ∷ b ∷ all)
  span_of_two =
      let lower = and_parts (nat_le own_ends.low (min a.low b.low)) (list_all (λ (ends : Ends). nat_le own_ends.low ends.low) all) span.none_lower in
      let higher = and_parts (nat_le (max a.high b.high) own_ends.high) (list_all (λ (ends : Ends). nat_le ends.high own_ends.high) all) span.none_higher in
      let low = leb-true own_ends.low (min a.low b.low) lower.0 in
      let high = leb-true (max a.high b.high) own_ends.high higher.0 in
      record {
        none_lower = and_from (nat_le own_ends.low a.low) _ (le-leb own_ends.low a.low (omega (arith, low))) (and_from (nat_le own_ends.low b.low)
            _ (le-leb own_ends.low b.low (omega (arith, low))) lower.1);
        none_higher = and_from (nat_le a.high own_ends.high) _ (le-leb a.high own_ends.high (omega (arith, high))) (and_from (nat_le b.high own_ends.high)
            _ (le-leb b.high own_ends.high (omega (arith, high))) higher.1);
        lowest = lowest_by (or_cases (min a.low b.low == own_ends.low) _ span.lowest) (either a.low b.low);
        highest = highest_by (or_cases (max a.high b.high == own_ends.high) _ span.highest) (either a.high b.high);
      }

span_of_one : (own_ends : Ends) → IsSpan own_ends (own_ends ∷ [])
span_of_one own_ends = record {
  none_lower = and_from (nat_le own_ends.low own_ends.low) true (le-leb own_ends.low own_ends.low (omega arith)) refl;
  none_higher = and_from (nat_le own_ends.high own_ends.high) true (le-leb own_ends.high own_ends.high (omega arith))
      refl;
  lowest = or_left (own_ends.low == own_ends.low) false (eq-eqb own_ends.low own_ends.low refl);
  highest = or_left (own_ends.high == own_ends.high) false (eq-eqb own_ends.high own_ends.high refl);
}

-- ---- the hull of two

-- what each range of the list is, and each hull of some
pub record IsKept (lasts : List ℕ) (a : Range) : Type 0 where
  pub fits : IsFit lasts a
  pub normal : IsNormal a.base

abbrev pub AreKept : List ℕ → List Range → Type 0
AreKept lasts all = AllByRecursion (IsKept lasts) all

ends_are : (a b c d : ℕ) → a ≡ c → b ≡ d → ◌≡◌ {A = Ends} (record { low = a; high = b }) (record { low = c; high = d })
ends_are a b c d e f = cc

module _ (lasts : List ℕ) where
  fit_is : (base : List Multiple) (ends : Ends) → least + less_sum base lasts ≤ ends.low → ends.high + more_sum base lasts ≤ greatest
      → fit lasts base ends ≡ record { base = base; low = ends.low; high = ends.high }
  fit_is base ends l h = rw (le-leb (least + less_sum base lasts) ends.low l, le-leb (ends.high + more_sum base lasts) greatest h) refl

  record AreJoined (a b own_range : Range) : Type 0 where
    pub kept : IsKept lasts own_range
    pub ends : widened lasts own_range ≡ hull (widened lasts a) (widened lasts b)
    pub same : same_base a.base b.base ≡ true → (own_range.base ≡ a.base) ×
        (ends_of own_range ≡ hull (ends_of a) (ends_of b))
    pub other : same_base a.base b.base ≡ false → own_range.base ≡ no_base

  plain_widened : (own_range : Range) → own_range.base ≡ no_base → widened lasts own_range ≡ ends_of own_range
  plain_widened own_range e =
      let less : less_sum own_range.base lasts ≡ 0 = ap (λ (l : List Multiple). less_sum l lasts) e ∙ no_less lasts in
      let more : more_sum own_range.base lasts ≡ 0 = ap (λ (l : List Multiple). more_sum l lasts) e ∙ no_more lasts in
      ends_are (own_range.low - less_sum own_range.base lasts) (own_range.high + more_sum own_range.base lasts) own_range.low own_range.high (omega (arith, less)) (omega (arith, more))

  module _ (a b : Range) (ka : IsKept lasts a) (kb : IsKept lasts b) where
    abbrev both : Bool → CommonBase
    both test = cond test (record { base = a.base; first = ends_of a; second = ends_of b }) (record {
      base = no_base;
      first = widened lasts a;
      second =
          widened lasts b;
    })

    fitted : (test : Bool) → same_base a.base b.base ≡ test → together lasts hull a b ≡ fit lasts (both test).base (hull (both test).first (both test).second)
    fitted test e = ap (λ (t : Bool). fit lasts (both t).base (hull (both t).first (both t).second)) e

    joined_by : (test : Bool) → same_base a.base b.base ≡ test → AreJoined a b (together lasts hull a b)
    joined_by true e =
        let sums = normal_same a.base b.base lasts (small_fit lasts a ka.fits) (small_fit lasts b kb.fits) ka.normal kb.normal e in
        let is : together lasts hull a b ≡ record { base = a.base; low = min a.low b.low; high = max a.high b.high } =
        fitted true e ∙ fit_is a.base (hull (ends_of a) (ends_of b)) (omega (arith, ka.fits.low, kb.fits.low, sums.1))
        (omega (arith, ka.fits.high, kb.fits.high, sums.0)) in
        subst (λ (own_range : Range). AreJoined a b own_range) (sym is) (record {
          kept = record { fits = subst (λ (own_range : Range). IsFit lasts own_range) is (hull_fits lasts a b ka.fits kb.fits); normal = ka.normal };
          ends = ends_are (min a.low b.low - less_sum a.base lasts) (max a.high b.high + more_sum a.base lasts)
              (min (a.low - less_sum a.base lasts) (b.low - less_sum b.base lasts)) (max (a.high + more_sum a.base lasts) (b.high + more_sum b.base lasts))
              (omega (arith, sums.1)) (omega (arith, sums.0));
          same = λ t. (refl, refl);
          other = λ f. absurd cc;
        })
    joined_by false e =
        let own_range : Range = record {
          base = no_base;
          low = min (widened lasts a).low (widened lasts b).low;
          high = max (widened lasts a).high
              (widened lasts b).high;
        } in
        let is : together lasts hull a b ≡ own_range =
        fitted false e
        ∙ fit_is no_base (hull (widened lasts a) (widened lasts b)) (omega (arith, ka.fits.low, kb.fits.low, no_less lasts))
        (omega (arith, ka.fits.high, kb.fits.high, no_more lasts)) in
        subst (λ (c : Range). AreJoined a b c) (sym is) (record {
          kept = record { fits = subst (λ (c : Range). IsFit lasts c) is (hull_fits lasts a b ka.fits kb.fits); normal = none_normal };
          ends = plain_widened own_range refl;
          same = λ t. absurd cc;
          other = λ f. refl;
        })

    joined_two : AreJoined a b (together lasts hull a b)
    joined_two = joined_by (same_base a.base b.base) refl

  -- ---- the hull of a list

  abbrev pub hulls : Range → List Range → Range
  hulls own_range [] = own_range
  hulls own_range (range ∷ others) = hulls (together lasts hull own_range range) others

  pub hulls_kept : (own_range : Range) (others : List Range) → IsKept lasts own_range → AreKept lasts others → IsKept lasts (hulls own_range others)
  hulls_kept own_range [] kept all = kept
  hulls_kept own_range (range ∷ others) kept all = hulls_kept (together lasts hull own_range range) others (joined_two own_range range kept all.0).kept all.1

  widened_span : (own_range : Range) (others : List Range) → IsKept lasts own_range → AreKept lasts others
      → IsSpan (widened lasts (hulls own_range others)) (map (widened lasts) (own_range ∷ others))
  widened_span own_range [] kept all = span_of_one (widened lasts own_range)
  widened_span own_range (range ∷ others) kept all =
      let join = joined_two own_range range kept all.0 in
      let next = together lasts hull own_range range in
      span_of_two (widened lasts (hulls next others)) (widened lasts own_range) (widened lasts range) (map (widened lasts) others)
      (subst (λ (ends : Ends). IsSpan (widened lasts (hulls next others)) (ends ∷ map (widened lasts) others)) join.ends (widened_span next others join.kept
      all.1))

  abbrev have_base : List Multiple → List Range → Bool
  have_base base all = list_all (λ (range : Range). same_base base range.base) all

  -- all of one base
  one_base : (own_range : Range) (others : List Range) → IsKept lasts own_range → AreKept lasts others → have_base own_range.base others ≡ true
      → ((hulls own_range others).base ≡ own_range.base) × IsSpan (ends_of (hulls own_range others))
      (map ends_of (own_range ∷ others))
  one_base own_range [] kept all e = (refl, span_of_one (ends_of own_range))
  one_base own_range (range ∷ others) kept all e =
      let join = joined_two own_range range kept all.0 in
      let next = together lasts hull own_range range in
      let bases = and_parts (same_base own_range.base range.base) (have_base own_range.base others) e in
      let same = join.same bases.0 in
      let rest = one_base next others join.kept all.1 (subst (λ (base : List Multiple). have_base base others ≡ true) (sym same.0) bases.1) in (
        rest.0 ∙ same.0,
        span_of_two (ends_of (hulls next others)) (ends_of own_range) (ends_of range) (map ends_of others)
            (subst (λ (ends : Ends). IsSpan (ends_of (hulls next others)) (ends ∷ map ends_of others)) same.1 rest.1),
      )

  -- once the bases differ there is none
  still_none : (own_range : Range) (others : List Range) → IsKept lasts own_range → AreKept lasts others → own_range.base ≡ no_base → (hulls own_range others).base ≡ no_base
  still_none own_range [] kept all none = none
  still_none own_range (range ∷ others) kept all none =
      let join = joined_two own_range range kept all.0 in
      still_none (together lasts hull own_range range) others join.kept all.1 (by_test join (same_base own_range.base range.base) refl)
    where
      by_test : AreJoined own_range range (together lasts hull own_range range) → (test : Bool) → same_base own_range.base range.base ≡ test
          → (together lasts hull own_range range).base ≡ no_base
      by_test join true e = (join.same e).0 ∙ none
      by_test join false e = join.other e

  more_bases : (own_range : Range) (others : List Range) → IsKept lasts own_range → AreKept lasts others → have_base own_range.base others ≡ false
      → (hulls own_range others).base ≡ no_base
  more_bases own_range [] kept all e = absurd cc
  more_bases own_range (range ∷ others) kept all e =
      by_test (same_base own_range.base range.base) refl (λ differ. more_bases (together lasts hull own_range range) others (joined_two own_range range kept all.0).kept all.1
      differ)
    where
      join : AreJoined own_range range (together lasts hull own_range range)
      join = joined_two own_range range kept all.0

      by_test : (test : Bool) → same_base own_range.base range.base ≡ test
          → (have_base (together lasts hull own_range range).base others ≡ false → (hulls (together lasts hull own_range range) others).base ≡ no_base)
          → (hulls (together lasts hull own_range range) others).base ≡ no_base
      by_test false f next = still_none (together lasts hull own_range range) others join.kept all.1 (join.other f)
      by_test true f next =
          next (subst (λ (base : List Multiple). have_base base others ≡ false) (sym (join.same f).0) (ap (λ (t : Bool). t && have_base own_range.base others) (sym f)
          ∙ e))

  pub hulls_least : (own_range : Range) (others : List Range) → IsKept lasts own_range → AreKept lasts others → IsLeast lasts (own_range ∷ others) (hulls own_range others)
  hulls_least own_range others kept all = record {
    one_base = λ e.
        let one = one_base own_range others kept all e in (
          subst (λ (base : List Multiple). have_base base (own_range ∷ others) ≡ true) (sym one.0) (and_from (same_base own_range.base own_range.base) (have_base own_range.base others)
              (same_refl own_range.base) e),
          one.1,
        );
    more_bases = λ e.
        let none = more_bases own_range others kept all e in (
          none,
          subst (λ (ends : Ends). IsSpan ends (map (widened lasts) (own_range ∷ others))) (plain_widened (hulls own_range others) none) (widened_span own_range others kept
              all),
        );
  }
