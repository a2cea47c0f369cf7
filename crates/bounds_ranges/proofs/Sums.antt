-- Bases under values of the loops.
use Rattle.std.proofs.Common.{◌≡◌, ℕ, zero, suc, ◌+◌, ◌-◌, ◌*◌, ◌^◌, ◌≤◌, true, List, [], ◌∷◌, refl, sym, ap, ◌∙◌, arith, inl, inr}
use Rattle.std.specs.Prelude.{min}
use Rattle.std.proofs.lemmas.Bool.{and_parts, eqb-true, cases_lt}
use Rattle.std.proofs.Math.Nat.{mul-le-mul_left}
use Rattle.bounds_ranges.specs.declared.bases.Multiple.{Multiple}
use Rattle.bounds_ranges.specs.Ranges.{cut, zero_multiple, no_base, add_base, negated, times_base, same_multiple, same_base, more_sum, less_sum}
use Rattle.bounds_ranges.specs.Laws.{Below}

pub more_below : (base : List Multiple) (values lasts : List ℕ) → Below values lasts → more_sum base values ≤ more_sum base lasts
more_below [] values lasts b = omega arith
more_below (m ∷ ms) [] [] b = omega arith
more_below (m ∷ ms) [] (l ∷ lasts) b = absurd b
more_below (m ∷ ms) (v ∷ values) [] b = absurd b
more_below (m ∷ ms) (v ∷ values) (l ∷ lasts) b = omega (arith, mul-le-mul_left m.more b.0, more_below ms values lasts b.1)

pub less_below : (base : List Multiple) (values lasts : List ℕ) → Below values lasts → less_sum base values ≤ less_sum base lasts
less_below [] values lasts b = omega arith
less_below (m ∷ ms) [] [] b = omega arith
less_below (m ∷ ms) [] (l ∷ lasts) b = absurd b
less_below (m ∷ ms) (v ∷ values) [] b = absurd b
less_below (m ∷ ms) (v ∷ values) (l ∷ lasts) b = omega (arith, mul-le-mul_left m.less b.0, less_below ms values lasts b.1)

-- ---- no base

zeros : ℕ → List Multiple
zeros zero = []
zeros (suc n) = zero_multiple ∷ zeros n

more_zeros : (n : ℕ) (values : List ℕ) → more_sum (zeros n) values ≡ 0
unfolding zeros
more_zeros zero values = refl
more_zeros (suc n) [] = refl
more_zeros (suc n) (v ∷ values) = omega (arith, more_zeros n values)

less_zeros : (n : ℕ) (values : List ℕ) → less_sum (zeros n) values ≡ 0
unfolding zeros
less_zeros zero values = refl
less_zeros (suc n) [] = refl
less_zeros (suc n) (v ∷ values) = omega (arith, less_zeros n values)

pub no_more : (values : List ℕ) → more_sum no_base values ≡ 0
unfolding zeros
no_more values = more_zeros 5 values

pub no_less : (values : List ℕ) → less_sum no_base values ≡ 0
unfolding zeros
no_less values = less_zeros 5 values

-- ---- small bases, of which nothing is cut where it counts

abbrev pub most : ℕ
most = 2 ^ 33

pub record Small (base : List Multiple) (lasts : List ℕ) : Type 0 where
  pub more : more_sum base lasts ≤ most
  pub less : less_sum base lasts ≤ most

-- a number that is small as often as a loop runs isn't cut
uncut : (m v l : ℕ) → v ≤ l → m * l ≤ most → cut m * v ≡ m * v
uncut m zero l b s = omega arith
uncut m (suc v) l b s =
    let one : m * 1 ≤ m * l = mul-le-mul_left m (omega (arith, b)) in
    let e : min m (2 ^ 40) ≡ m = omega (arith, one, s) in
    ap (λ (n : ℕ). n * suc v) e

-- nor is one whose cut is small
cut_small : (m v l : ℕ) → v ≤ l → cut m * l ≤ most → cut m * v ≡ m * v
cut_small m zero l b s = omega arith
cut_small m (suc v) l b s =
    let one : cut m * 1 ≤ cut m * l = mul-le-mul_left (cut m) (omega (arith, b)) in
    let e : min m (2 ^ 40) ≡ m = omega (arith, one, s) in
    ap (λ (n : ℕ). n * suc v) e

head_more : (a : Multiple) (aas : List Multiple) (l : ℕ) (lasts : List ℕ) → Small (a ∷ aas) (l ∷ lasts) → a.more * l ≤ most
head_more a aas l lasts s = omega (arith, s.more)

head_less : (a : Multiple) (aas : List Multiple) (l : ℕ) (lasts : List ℕ) → Small (a ∷ aas) (l ∷ lasts) → a.less * l ≤ most
head_less a aas l lasts s = omega (arith, s.less)

tail_small : (a : Multiple) (aas : List Multiple) (l : ℕ) (lasts : List ℕ) → Small (a ∷ aas) (l ∷ lasts) → Small aas lasts
tail_small a aas l lasts s = record { more = omega (arith, s.more); less = omega (arith, s.less) }

-- ---- sums

times_add : (m n v : ℕ) → (m + n) * v ≡ m * v + n * v
times_add m n v = omega arith

parted_times : (d more less v : ℕ) → d + more ≡ less → 0 * v + less * v ≡ d * v + more * v
parted_times d more less v e =
    let z : 0 * v + less * v ≡ less * v = omega arith in
    z ∙ ap (λ (n : ℕ). n * v) (sym e) ∙ times_add d more v

difference_times : (more less v : ℕ) → (more - less) * v + less * v ≡ (less - more) * v + more * v
difference_times more less v = elim (cases_lt more less) [
  | inl l ↦
      let z : more - less ≡ 0 = omega arith in
      let s : less - more + more ≡ less = omega arith in
      ap (λ (n : ℕ). n * v + less * v) z ∙ parted_times (less - more) more less v s
  | inr l ↦
      let z : less - more ≡ 0 = omega arith in
      let s : more - less + less ≡ more = omega arith in
      sym (ap (λ (n : ℕ). n * v + more * v) z ∙ parted_times (more - less) less more v s)
]

pub add_sums : (a b : List Multiple) (values lasts : List ℕ) → Below values lasts → Small a lasts → Small b lasts
    → more_sum (add_base a b) values + (less_sum a values + less_sum b values) ≡ less_sum (add_base a b) values + (more_sum a values + more_sum b values)
add_sums [] b values lasts below sa sb = omega arith
add_sums (a ∷ aas) [] values lasts below sa sb = omega arith
add_sums (a ∷ aas) (b ∷ bs) [] lasts below sa sb = refl
add_sums (a ∷ aas) (b ∷ bs) (v ∷ values) [] below sa sb = absurd below
add_sums (a ∷ aas) (b ∷ bs) (v ∷ values) (l ∷ lasts) below sa sb =
    let more = cut a.more + cut b.more in
    let less = cut a.less + cut b.less in
    let d : (more - less) * v + less * v ≡ (less - more) * v + more * v = difference_times more less v in
    let am = uncut a.more v l below.0 (head_more a aas l lasts sa) in
    let al = uncut a.less v l below.0 (head_less a aas l lasts sa) in
    let bm = uncut b.more v l below.0 (head_more b bs l lasts sb) in
    let bl = uncut b.less v l below.0 (head_less b bs l lasts sb) in
    omega (
      arith,
      d,
      times_add (cut a.less) (cut b.less) v,
      times_add (cut a.more) (cut b.more) v,
      am,
      al,
      bm,
      bl,
      add_sums aas bs values lasts below.1 (tail_small a aas l lasts sa) (tail_small b bs l lasts sb),
    )

pub negated_more : (a : List Multiple) (values : List ℕ) → more_sum (negated a) values ≡ less_sum a values
negated_more [] values = refl
negated_more (a ∷ aas) [] = refl
negated_more (a ∷ aas) (v ∷ values) = ap (λ n. a.less * v + n) (negated_more aas values)

pub negated_less : (a : List Multiple) (values : List ℕ) → less_sum (negated a) values ≡ more_sum a values
negated_less [] values = refl
negated_less (a ∷ aas) [] = refl
negated_less (a ∷ aas) (v ∷ values) = ap (λ n. a.more * v + n) (negated_less aas values)

pub negated_small : (a : List Multiple) (lasts : List ℕ) → Small a lasts → Small (negated a) lasts
negated_small a lasts s = record { more = omega (arith, negated_more a lasts, s.less); less = omega (arith, negated_less a lasts, s.more) }

-- equal multiples come to the same
same_times : (a b : Multiple) (v l : ℕ) → v ≤ l → a.more * l ≤ most → a.less * l ≤ most → b.more * l ≤ most → b.less * l ≤ most
    → same_multiple a b ≡ true → a.more * v + b.less * v ≡ b.more * v + a.less * v
same_times a b v l below am al bm bl same =
    let e : cut a.more + cut b.less ≡ cut b.more + cut a.less = eqb-true (cut a.more + cut b.less) (cut b.more + cut a.less) same in
    let s : (cut a.more + cut b.less) * v ≡ (cut b.more + cut a.less) * v = ap (λ (n : ℕ). n * v) e in
    omega (
      arith,
      s,
      times_add (cut a.more) (cut b.less) v,
      times_add (cut b.more) (cut a.less) v,
      uncut a.more v l below am,
      uncut a.less v l below al,
      uncut b.more v l below bm,
      uncut b.less v l below bl,
    )

-- equal bases come to the same
pub same_sums : (a b : List Multiple) (values lasts : List ℕ) → Below values lasts → Small a lasts → Small b lasts
    → same_base a b ≡ true → more_sum a values + less_sum b values ≡ more_sum b values + less_sum a values
same_sums [] [] values lasts below sa sb e = refl
same_sums [] (b ∷ bs) [] lasts below sa sb e = refl
same_sums [] (b ∷ bs) (v ∷ values) [] below sa sb e = absurd below
same_sums [] (b ∷ bs) (v ∷ values) (l ∷ lasts) below sa sb e =
    let p = and_parts (same_multiple zero_multiple b) (same_base [] bs) e in
    let s = same_times zero_multiple b v l below.0 (omega arith) (omega arith) (head_more b bs l lasts sb) (head_less b bs l lasts sb) p.0 in
    let tail : more_sum [] values + less_sum bs values ≡ more_sum bs values + less_sum [] values = same_sums [] bs values lasts below.1
    (record { more = omega arith; less = omega arith }) (tail_small b bs l lasts sb) p.1 in
    omega (arith, s, tail)
same_sums (a ∷ aas) [] [] lasts below sa sb e = refl
same_sums (a ∷ aas) [] (v ∷ values) [] below sa sb e = absurd below
same_sums (a ∷ aas) [] (v ∷ values) (l ∷ lasts) below sa sb e =
    let p = and_parts (same_multiple a zero_multiple) (same_base aas []) e in
    let s = same_times a zero_multiple v l below.0 (head_more a aas l lasts sa) (head_less a aas l lasts sa) (omega arith) (omega arith) p.0 in
    let tail : more_sum aas values + less_sum [] values ≡ more_sum [] values + less_sum aas values = same_sums aas [] values lasts below.1
    (tail_small a aas l lasts sa) (record { more = omega arith; less = omega arith }) p.1 in
    omega (arith, s, tail)
same_sums (a ∷ aas) (b ∷ bs) [] lasts below sa sb e = refl
same_sums (a ∷ aas) (b ∷ bs) (v ∷ values) [] below sa sb e = absurd below
same_sums (a ∷ aas) (b ∷ bs) (v ∷ values) (l ∷ lasts) below sa sb e =
    let p = and_parts (same_multiple a b) (same_base aas bs) e in
    let s = same_times a b v l below.0 (head_more a aas l lasts sa) (head_less a aas l lasts sa) (head_more b bs l lasts sb) (head_less b bs l lasts sb) p.0 in
    omega (arith, s, same_sums aas bs values lasts below.1 (tail_small a aas l lasts sa) (tail_small b bs l lasts sb) p.1)

-- ---- products

swap_times : (a n v : ℕ) → a * n * v ≡ a * v * n
swap_times a n v = omega arith

pub more_times : (n : ℕ) (base : List Multiple) (values lasts : List ℕ) → Below values lasts → more_sum (times_base n base) lasts ≤ most
    → more_sum (times_base n base) values ≡ more_sum base values * n
more_times n [] values lasts below s = omega arith
more_times n (m ∷ ms) [] lasts below s = omega arith
more_times n (m ∷ ms) (v ∷ values) [] below s = absurd below
more_times n (m ∷ ms) (v ∷ values) (l ∷ lasts) below s =
    let c : cut (m.more * n) * v ≡ m.more * n * v = cut_small (m.more * n) v l below.0 (omega (arith, s)) in
    omega (arith, c, swap_times m.more n v, more_times n ms values lasts below.1 (omega (arith, s)), times_add (m.more * v) (more_sum ms values) n)

pub less_times : (n : ℕ) (base : List Multiple) (values lasts : List ℕ) → Below values lasts → less_sum (times_base n base) lasts ≤ most
    → less_sum (times_base n base) values ≡ less_sum base values * n
less_times n [] values lasts below s = omega arith
less_times n (m ∷ ms) [] lasts below s = omega arith
less_times n (m ∷ ms) (v ∷ values) [] below s = absurd below
less_times n (m ∷ ms) (v ∷ values) (l ∷ lasts) below s =
    let c : cut (m.less * n) * v ≡ m.less * n * v = cut_small (m.less * n) v l below.0 (omega (arith, s)) in
    omega (arith, c, swap_times m.less n v, less_times n ms values lasts below.1 (omega (arith, s)), times_add (m.less * v) (less_sum ms values) n)
