-- Products of ranges.
use Rattle.std.proofs.Common.{◌≡◌, ℕ, zero, suc, ◌+◌, ◌-◌, ◌*◌, ◌%◌, ◌^◌, ◌<◌, ◌≤◌, Bool, true, false, cond, List, refl, sym, ap, subst, ◌∙◌, arith, inl, inr}
use Rattle.std.specs.Prelude.{◌==◌, nat_le, min, max}
use Rattle.std.proofs.lemmas.Bool.{le-leb, lt-leb, leb-true, leb-false, cases_lt, and_parts, eqb-true}
use Rattle.std.proofs.Math.Nat.{mul-le-mul_right, mul-le-mul_left, mod-lt}
use Rattle.std.proofs.lemmas.Nat.{mod-mul-add}
use Rattle.halide_pipeline.specs.Words.{multiply}
use Rattle.bounds_ranges.specs.declared.bases.Multiple.{Multiple}
use Rattle.bounds_ranges.specs.declared.ranges.Ends.{Ends}
use Rattle.bounds_ranges.specs.declared.ranges.Range.{Range}
use Rattle.bounds_ranges.specs.Ranges.{no_base, negated, times_base, same_base, more_sum, less_sum, fit, widened, times_end, ordered, scaled, crossed}
use Rattle.bounds_ranges.specs.Ranges.{is_number, multiplied}
use Rattle.bounds_ranges.specs.Numbers.{origin, least, greatest, spot}
use Rattle.bounds_ranges.specs.Laws.{Below, Lies}
use Rattle.bounds_ranges.proofs.Sums.{more_below, less_below, no_more, no_less, same_sums, more_times, less_times, negated_more, negated_less}
use Rattle.bounds_ranges.proofs.Lying.{small_of, widened_stands, fit_lies, plain_lies}

-- ---- the product of two ends

both_over : (p q : ℕ) → origin ≤ p → origin ≤ q → times_end p q ≡ origin + (p - origin) * (q - origin)
both_over p q l m = rw (le-leb origin p l, le-leb origin q m) refl

first_over : (p q : ℕ) → origin ≤ p → q < origin → times_end p q ≡ origin - (p - origin) * (origin - q)
first_over p q l m = rw (le-leb origin p l, lt-leb origin q m) refl

second_over : (p q : ℕ) → p < origin → origin ≤ q → times_end p q ≡ origin - (origin - p) * (q - origin)
second_over p q l m = rw (lt-leb origin p l, le-leb origin q m) refl

none_over : (p q : ℕ) → p < origin → q < origin → times_end p q ≡ origin + (origin - p) * (origin - q)
none_over p q l m = rw (lt-leb origin p l, lt-leb origin q m) refl

commutes : (a b : ℕ) → a * b ≡ b * a
commutes a b = omega arith

times_swap : (p q : ℕ) → times_end p q ≡ times_end q p
times_swap p q = elim (cases_lt p origin) [
  | inl pu ↦ elim (cases_lt q origin) [
    | inl qu ↦ none_over p q pu qu ∙ ap (λ n. origin + n) (commutes (origin - p) (origin - q)) ∙ sym (none_over q p qu pu)
    | inr qo ↦ second_over p q pu qo ∙ ap (λ n. origin - n) (commutes (origin - p) (q - origin)) ∙ sym (first_over q p qo pu)
  ]
  | inr po ↦ elim (cases_lt q origin) [
    | inl qu ↦ first_over p q po qu ∙ ap (λ n. origin - n) (commutes (p - origin) (origin - q)) ∙ sym (second_over q p qu po)
    | inr qo ↦ both_over p q po qo ∙ ap (λ n. origin + n) (commutes (p - origin) (q - origin)) ∙ sym (both_over q p qo po)
  ]
]

small_product : (a b : ℕ) → a ≤ 2 ^ 31 → b ≤ 2 ^ 31 → a * b ≤ origin
small_product a b l m = let s : a * b ≤ a * 2 ^ 31 = mul-le-mul_left a m in omega (arith, s, l)

times_add : (a b c : ℕ) → (a + b) * c ≡ a * c + b * c
times_add a b c = omega arith

parted : (a b s c : ℕ) → a + b ≡ s → a * c + b * c ≡ s * c
parted a b s c e = sym (times_add a b c) ∙ ap (λ n. n * c) e

-- plain numbers
up_over : (z k d o t : ℕ) → o + k ≡ z → t ≡ o + k * d → t + o * d ≡ z * d + o
up_over z k d o t e is = let p = parted o k z d e in omega (arith, p, is)

up_under : (z k d o t : ℕ) → k + z ≡ o → t ≡ o - k * d → k * d ≤ o → t + o * d ≡ z * d + o
up_under z k d o t e is few = let p = parted k z o d e in omega (arith, p, is, few)

down_over : (z k d o t : ℕ) → o + k ≡ z → t ≡ o - k * d → k * d ≤ o → t + z * d ≡ o * d + o
down_over z k d o t e is few = let p = parted o k z d e in omega (arith, p, is, few)

down_under : (z k d o t : ℕ) → k + z ≡ o → t ≡ o + k * d → t + z * d ≡ o * d + o
down_under z k d o t e is = let p = parted k z o d e in omega (arith, p, is)

-- times a number that is not negative
rising : (z c : ℕ) → least ≤ z → z ≤ greatest → origin ≤ c → c ≤ greatest → times_end z c + origin * (c - origin) ≡ z * (c - origin) + origin
rising z c lz gz lc gc = elim (cases_lt z origin) [
  | inl under ↦ up_under z (origin - z) (c - origin) origin (times_end z c) (omega (arith, under)) (second_over z c under lc) (small_product (origin - z)
      (c - origin) (omega (arith, lz)) (omega (arith, gc)))
  | inr over ↦ up_over z (z - origin) (c - origin) origin (times_end z c) (omega (arith, over)) (both_over z c over lc)
]

-- times a negative one
falling : (z c : ℕ) → least ≤ z → z ≤ greatest → least ≤ c → c < origin → times_end z c + z * (origin - c) ≡ origin * (origin - c) + origin
falling z c lz gz lc gc = elim (cases_lt z origin) [
  | inl under ↦ down_under z (origin - z) (origin - c) origin (times_end z c) (omega (arith, under)) (none_over z c under gc)
  | inr over ↦ down_over z (z - origin) (origin - c) origin (times_end z c) (omega (arith, over)) (first_over z c over gc) (small_product (z - origin)
      (origin - c) (omega (arith, gz)) (omega (arith, lc)))
]

-- ---- the product of two words

small_word : (x : ℕ) → x < 2 ^ 31 → spot x ≡ origin + x
small_word x l = omega arith

large_word : (x : ℕ) → 2 ^ 31 ≤ x → x < 2 ^ 32 → spot x + (2 ^ 32 - x) ≡ origin
large_word x l w = omega arith

small_spot : (n : ℕ) → n < 2 ^ 31 → spot (n % 2 ^ 32) ≡ origin + n
small_spot n l = let e : n % 2 ^ 32 ≡ n = omega arith in omega (arith, e)

one_large : (x u y : ℕ) → x + u ≡ 2 ^ 32 → 1 ≤ u → u * y ≤ 2 ^ 31 → spot ((x * y) % 2 ^ 32) + u * y ≡ origin
one_large x u zero e some m =
    let a : x * zero ≡ 0 = omega arith in
    let b : u * zero ≡ 0 = omega arith in
    let f : (x * zero) % 2 ^ 32 ≡ 0 = ap (λ k. k % 2 ^ 32) a in
    omega (arith, f, b)
one_large x u (suc n) e some m =
    let p : x * suc n + u * suc n ≡ 2 ^ 32 * suc n = parted x u (2 ^ 32) (suc n) e in
    let positive : u * 1 ≤ u * suc n = mul-le-mul_left u (omega arith) in
    let r : x * suc n ≡ n * 2 ^ 32 + (2 ^ 32 - u * suc n) = omega (arith, p, positive, some, m) in
    let f : (x * suc n) % 2 ^ 32 ≡ 2 ^ 32 - u * suc n = ap (λ k. k % 2 ^ 32) r ∙ mod-mul-add n (2 ^ 32) (2 ^ 32 - u * suc n) (omega (arith, positive, some)) in
    omega (arith, f, m, positive, some)

both_large : (x u y w : ℕ) → x + u ≡ 2 ^ 32 → y + w ≡ 2 ^ 32 → u ≤ 2 ^ 31 → w ≤ 2 ^ 31 → u * w < 2 ^ 31 → spot ((x * y) % 2 ^ 32) ≡ origin + u * w
both_large x u y w e f lu lw m =
    let p : x * y + u * y ≡ 2 ^ 32 * y = parted x u (2 ^ 32) y e in
    let q : y * u + w * u ≡ 2 ^ 32 * u = parted y w (2 ^ 32) u f in
    let r : x * y ≡ (2 ^ 32 - u - w) * 2 ^ 32 + u * w = omega (arith, p, q, e, f, lu, lw, commutes y u, commutes w u) in
    let s : (x * y) % 2 ^ 32 ≡ u * w = ap (λ k. k % 2 ^ 32) r ∙ mod-mul-add (2 ^ 32 - u - w) (2 ^ 32) (u * w) (omega (arith, m)) in
    omega (arith, s, m)

at_ends : (p q a b : ℕ) → p ≡ a → q ≡ b → p * q ≡ a * b
at_ends p q a b e f = ap (λ n. n * q) e ∙ ap (λ n. a * n) f

-- where the product is, if that is a signed word
pub product_spot : (x y : ℕ) → x < 2 ^ 32 → y < 2 ^ 32 → least ≤ times_end (spot x) (spot y) → times_end (spot x) (spot y) ≤ greatest
    → spot (multiply x y) ≡ times_end (spot x) (spot y)
unfolding multiply
product_spot x y wx wy l h = elim (cases_lt x (2 ^ 31)) [
  | inl sx ↦ elim (cases_lt y (2 ^ 31)) [
    | inl sy ↦
        let at : times_end (spot x) (spot y) ≡ origin + (spot x - origin) * (spot y - origin) = both_over (spot x) (spot y) (omega (arith, small_word x sx))
        (omega (arith, small_word y sy)) in
        let same : (spot x - origin) * (spot y - origin) ≡ x * y = at_ends (spot x - origin) (spot y - origin) x y (omega (arith, small_word x sx))
        (omega (arith, small_word y sy)) in
        omega (arith, at, same, small_spot (x * y) (omega (arith, at, same, h)))
    | inr ly ↦
        let at : times_end (spot x) (spot y) ≡ origin - (spot x - origin) * (origin - spot y) = first_over (spot x) (spot y) (omega (arith, small_word x sx))
        (omega (arith, large_word y ly wy)) in
        let same : (spot x - origin) * (origin - spot y) ≡ x * (2 ^ 32 - y) = at_ends (spot x - origin) (origin - spot y) x (2 ^ 32 - y)
        (omega (arith, small_word x sx)) (omega (arith, large_word y ly wy)) in
        let turn : x * (2 ^ 32 - y) ≡ (2 ^ 32 - y) * x = commutes x (2 ^ 32 - y) in
        let is : spot ((y * x) % 2 ^ 32) + (2 ^ 32 - y) * x ≡ origin = one_large y (2 ^ 32 - y) x (omega (arith, wy)) (omega (arith, wy))
        (omega (arith, at, same, turn, l)) in
        let over : spot ((x * y) % 2 ^ 32) ≡ spot ((y * x) % 2 ^ 32) = ap (λ n. spot (n % 2 ^ 32)) (commutes x y) in
        omega (arith, at, same, turn, is, over)
  ]
  | inr lx ↦ elim (cases_lt y (2 ^ 31)) [
    | inl sy ↦
        let at : times_end (spot x) (spot y) ≡ origin - (origin - spot x) * (spot y - origin) = second_over (spot x) (spot y)
        (omega (arith, large_word x lx wx)) (omega (arith, small_word y sy)) in
        let same : (origin - spot x) * (spot y - origin) ≡ (2 ^ 32 - x) * y = at_ends (origin - spot x) (spot y - origin) (2 ^ 32 - x) y
        (omega (arith, large_word x lx wx)) (omega (arith, small_word y sy)) in
        let is : spot ((x * y) % 2 ^ 32) + (2 ^ 32 - x) * y ≡ origin = one_large x (2 ^ 32 - x) y (omega (arith, wx)) (omega (arith, wx))
        (omega (arith, at, same, l)) in
        omega (arith, at, same, is)
    | inr ly ↦
        let at : times_end (spot x) (spot y) ≡ origin + (origin - spot x) * (origin - spot y) = none_over (spot x) (spot y) (omega (arith, large_word x lx wx))
        (omega (arith, large_word y ly wy)) in
        let same : (origin - spot x) * (origin - spot y) ≡ (2 ^ 32 - x) * (2 ^ 32 - y) = at_ends (origin - spot x) (origin - spot y) (2 ^ 32 - x) (2 ^ 32 - y)
        (omega (arith, large_word x lx wx)) (omega (arith, large_word y ly wy)) in
        let is : spot ((x * y) % 2 ^ 32) ≡ origin + (2 ^ 32 - x) * (2 ^ 32 - y) = both_large x (2 ^ 32 - x) y (2 ^ 32 - y) (omega (arith, wx))
        (omega (arith, wy)) (omega (arith, lx)) (omega (arith, ly)) (omega (arith, at, same, h)) in
        omega (arith, at, same, is)
  ]
]

-- ---- products of ends that stand between others

abbrev Surrounds : ℕ → ℕ → ℕ → Type 0
Surrounds p q r = (min p q ≤ r) × (r ≤ max p q)

between_at : (lo z hi c : ℕ) → least ≤ lo → lo ≤ z → z ≤ hi → hi ≤ greatest → least ≤ c → c ≤ greatest
    → Surrounds (times_end lo c) (times_end hi c) (times_end z c)
between_at lo z hi c ll lz zh hg lc gc = elim (cases_lt c origin) [
  | inl under ↦
      let a = falling lo c ll (omega (arith, lz, zh, hg)) lc under in
      let b = falling z c (omega (arith, ll, lz)) (omega (arith, zh, hg)) lc under in
      let d = falling hi c (omega (arith, ll, lz, zh)) hg lc under in
      let m : lo * (origin - c) ≤ z * (origin - c) = mul-le-mul_right (origin - c) lz in
      let n : z * (origin - c) ≤ hi * (origin - c) = mul-le-mul_right (origin - c) zh in
      (omega (arith, a, b, d, m, n), omega (arith, a, b, d, m, n))
  | inr over ↦
      let a = rising lo c ll (omega (arith, lz, zh, hg)) over gc in
      let b = rising z c (omega (arith, ll, lz)) (omega (arith, zh, hg)) over gc in
      let d = rising hi c (omega (arith, ll, lz, zh)) hg over gc in
      let m : lo * (c - origin) ≤ z * (c - origin) = mul-le-mul_right (c - origin) lz in
      let n : z * (c - origin) ≤ hi * (c - origin) = mul-le-mul_right (c - origin) zh in
      (omega (arith, a, b, d, m, n), omega (arith, a, b, d, m, n))
]

crossed_at : (a b : Ends) (p q : ℕ) → least ≤ a.low → a.low ≤ p → p ≤ a.high → a.high ≤ greatest → least ≤ b.low → b.low ≤ q → q ≤ b.high → b.high ≤ greatest
    → ((crossed a b).low ≤ times_end p q) × (times_end p q ≤ (crossed a b).high)
crossed_at a b p q la ap pa ga lb bq qb gb =
    let w = between_at a.low p a.high q la ap pa ga (omega (arith, lb, bq)) (omega (arith, qb, gb)) in
    let u = between_at b.low q b.high a.low lb bq qb gb la (omega (arith, ap, pa, ga)) in
    let v = between_at b.low q b.high a.high lb bq qb gb (omega (arith, la, ap, pa)) ga in
    let e = times_swap a.low q in
    let f = times_swap a.high q in
    let g = times_swap a.low b.low in
    let h = times_swap a.low b.high in
    let i = times_swap a.high b.low in
    let j = times_swap a.high b.high in
    (omega (arith, w.0, u.0, v.0, e, f, g, h, i, j), omega (arith, w.1, u.1, v.1, e, f, g, h, i, j))

module _ (lasts values : List ℕ) (below : Below values lasts) where
  -- ---- a range times a number

  -- from ends to ends, by plain numbers: a number above 0
  up_between : (low s high m n d tl ts th o : ℕ) → low + m ≤ s + n → s + n ≤ high + m → tl + o * d ≡ low * d + o → ts + o * d ≡ s * d + o
      → th + o * d ≡ high * d + o
      → (tl + m * d ≤ ts + n * d) × (ts + n * d ≤ th + m * d)
  up_between low s high m n d tl ts th o l h el es eh =
      let p : (low + m) * d ≤ (s + n) * d = mul-le-mul_right d l in
      let q : (s + n) * d ≤ (high + m) * d = mul-le-mul_right d h in
      (omega (arith, p, el, es, times_add low m d, times_add s n d), omega (arith, q, eh, es, times_add high m d, times_add s n d))

  -- a number below 0
  down_between : (low s high m n d tl ts th o : ℕ) → low + m ≤ s + n → s + n ≤ high + m → tl + low * d ≡ o * d + o → ts + s * d ≡ o * d + o
      → th + high * d ≡ o * d + o
      → (th + n * d ≤ ts + m * d) × (ts + m * d ≤ tl + n * d)
  down_between low s high m n d tl ts th o l h el es eh =
      let p : (low + m) * d ≤ (s + n) * d = mul-le-mul_right d l in
      let q : (s + n) * d ≤ (high + m) * d = mul-le-mul_right d h in
      (omega (arith, q, eh, es, times_add high m d, times_add s n d), omega (arith, p, el, es, times_add low m d, times_add s n d))

  -- what the product's end and the sums of the base say of the product
  ends_between : (base : List Multiple) (tl th x y c : ℕ) → x < 2 ^ 32 → y < 2 ^ 32 → spot y ≡ c
      → least + less_sum base lasts ≤ min tl th → max tl th + more_sum base lasts ≤ greatest
      → min tl th + more_sum base values ≤ times_end (spot x) c + less_sum base values → times_end (spot x) c + less_sum base values ≤ max tl th + more_sum base
      values
      → (min tl th + more_sum base values ≤ spot (multiply x y) + less_sum base values) × (spot (multiply x y) + less_sum base values ≤ max tl th + more_sum
      base values)
  ends_between base tl th x y c wx wy is l h low high =
      let e : times_end (spot x) (spot y) ≡ times_end (spot x) c = ap (λ n. times_end (spot x) n) is in
      let m = more_below base values lasts below in
      let n = less_below base values lasts below in
      let at = product_spot x y wx wy (omega (arith, e, l, low, n)) (omega (arith, e, h, high, m)) in
      (omega (arith, at, e, low), omega (arith, at, e, high))

  scaled_at : (test : Bool) (a : Range) (x y c : ℕ) → nat_le origin c ≡ test → Lies lasts values a x → y < 2 ^ 32 → spot y ≡ c
      → Lies lasts values (fit lasts (cond test (times_base (c - origin) a.base) (times_base (origin - c) (negated a.base))) (ordered (times_end a.low c)
      (times_end a.high c))) (multiply x y)
  unfolding multiply
  scaled_at true a x y c over la wy is =
      fit_lies lasts values below (times_base (c - origin) a.base) (ordered (times_end a.low c) (times_end a.high c)) ((x * y) % 2 ^ 32)
      (mod-lt (x * y) (omega arith)) (λ l h.
      let d = c - origin in
      let up : origin ≤ c = leb-true origin c over in
      let gc : c ≤ greatest = omega (arith, is) in
      let m : more_sum (times_base d a.base) values ≡ more_sum a.base values * d = more_times d a.base values lasts below (omega (arith, l, h)) in
      let n : less_sum (times_base d a.base) values ≡ less_sum a.base values * d = less_times d a.base values lasts below (omega (arith, l, h)) in
      let b = up_between a.low (spot x) a.high (more_sum a.base values) (less_sum a.base values) d (times_end a.low c) (times_end (spot x) c)
      (times_end a.high c) origin la.low la.high
      (rising a.low c (omega (arith, la.fits_low)) (omega (arith, la.low, la.high, la.fits_high)) up gc)
      (rising (spot x) c (omega arith) (omega (arith, la.word)) up gc)
      (rising a.high c (omega (arith, la.low, la.high, la.fits_low)) (omega (arith, la.fits_high)) up gc) in
      ends_between (times_base d a.base) (times_end a.low c) (times_end a.high c) x y c la.word wy is l h (omega (arith, b.0, m, n)) (omega (arith, b.1, m, n)))
  scaled_at false a x y c under la wy is =
      fit_lies lasts values below (times_base (origin - c) (negated a.base)) (ordered (times_end a.low c) (times_end a.high c)) ((x * y) % 2 ^ 32)
      (mod-lt (x * y) (omega arith)) (λ l h.
      let d = origin - c in
      let down : c < origin = leb-false origin c under in
      let lc : least ≤ c = omega (arith, is) in
      let m : more_sum (times_base d (negated a.base)) values ≡ more_sum (negated a.base) values * d = more_times d (negated a.base) values lasts below
      (omega (arith, l, h)) in
      let n : less_sum (times_base d (negated a.base)) values ≡ less_sum (negated a.base) values * d = less_times d (negated a.base) values lasts below
      (omega (arith, l, h)) in
      let mn : more_sum (negated a.base) values * d ≡ less_sum a.base values * d = ap (λ k. k * d) (negated_more a.base values) in
      let nm : less_sum (negated a.base) values * d ≡ more_sum a.base values * d = ap (λ k. k * d) (negated_less a.base values) in
      let b = down_between a.low (spot x) a.high (more_sum a.base values) (less_sum a.base values) d (times_end a.low c) (times_end (spot x) c)
      (times_end a.high c) origin la.low la.high
      (falling a.low c (omega (arith, la.fits_low)) (omega (arith, la.low, la.high, la.fits_high)) lc down)
      (falling (spot x) c (omega arith) (omega (arith, la.word)) lc down)
      (falling a.high c (omega (arith, la.low, la.high, la.fits_low)) (omega (arith, la.fits_high)) lc down) in
      ends_between (times_base d (negated a.base)) (times_end a.low c) (times_end a.high c) x y c la.word wy is l h (omega (arith, b.0, m, n, mn, nm))
      (omega (arith, b.1, m, n, mn, nm)))

  scaled_lies : (a : Range) (x y c : ℕ) → Lies lasts values a x → y < 2 ^ 32 → spot y ≡ c → Lies lasts values (scaled lasts a c) (multiply x y)
  scaled_lies a x y c la wy is = scaled_at (nat_le origin c) a x y c refl la wy is

  -- ---- products of two ranges

  crossed_lies : (a b : Range) (x y : ℕ) → Lies lasts values a x → Lies lasts values b y
      → Lies lasts values (fit lasts no_base (crossed (widened lasts a) (widened lasts b))) (multiply x y)
  unfolding multiply
  crossed_lies a b x y la lb =
      let wa = widened_stands lasts values below a x la in
      let wb = widened_stands lasts values below b y lb in
      let t = crossed_at (widened lasts a) (widened lasts b) (spot x) (spot y) wa.least_low wa.low wa.high wa.high_greatest wb.least_low wb.low wb.high
      wb.high_greatest in
      plain_lies lasts values below (crossed (widened lasts a) (widened lasts b)) ((x * y) % 2 ^ 32) (mod-lt (x * y) (omega arith)) (λ l h.
      let at = product_spot x y la.word lb.word (omega (arith, l, t.0)) (omega (arith, h, t.1)) in
      (omega (arith, at, t.0), omega (arith, at, t.1)))

  -- the one number
  number_spot : (b : Range) (y : ℕ) → Lies lasts values b y → is_number b ≡ true → spot y ≡ b.low
  number_spot b y lb is =
      let k = and_parts (same_base b.base no_base) (b.low == b.high) is in
      let s = same_sums b.base no_base values lasts below (small_of lasts values below b y lb) (record {
        more = omega (arith, no_more lasts);
        less =
            omega (arith, no_less lasts);
      }) k.0 in
      let e : b.low ≡ b.high = eqb-true b.low b.high k.1 in
      omega (arith, s, no_more values, no_less values, e, lb.low, lb.high)

  multiplied_at : (first second : Bool) (a b : Range) (x y : ℕ) → is_number b ≡ second → is_number a ≡ first → Lies lasts values a x → Lies lasts values b y
      → Lies lasts values (cond second (scaled lasts a b.low) (cond first (scaled lasts b a.low)
      (fit lasts no_base (crossed (widened lasts a) (widened lasts b))))) (multiply x y)
  unfolding multiply
  multiplied_at first true a b x y is other la lb = scaled_lies a x y b.low la lb.word (number_spot b y lb is)
  multiplied_at true false a b x y is other la lb =
      subst (λ (n : ℕ). Lies lasts values (scaled lasts b a.low) (n % 2 ^ 32)) (commutes y x) (scaled_lies b y x a.low lb la.word (number_spot a x la other))
  multiplied_at false false a b x y is other la lb = crossed_lies a b x y la lb

  pub multiplied_lies : (a b : Range) (x y : ℕ) → Lies lasts values a x → Lies lasts values b y → Lies lasts values (multiplied lasts a b) (multiply x y)
  multiplied_lies a b x y la lb = multiplied_at (is_number a) (is_number b) a b x y refl refl la lb
