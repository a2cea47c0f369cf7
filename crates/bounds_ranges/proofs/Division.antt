-- Quotients and remainders of ranges.
use Rattle.std.proofs.Common.{◌≡◌, ℕ, ◌+◌, ◌-◌, ◌*◌, ◌/◌, ◌^◌, ◌<◌, ◌≤◌, false, List, ◌==◌, refl, ap, ◌∙◌, arith, inl, inr}
use Rattle.std.proofs.lemmas.Bool.{le-leb, lt-leb, lt-ltb, le-ltb, ne_eqb, cases_lt}
use Rattle.std.proofs.Math.Nat.{mod-lt, div-lt_iff_lt-mul, div-le_self}
use Rattle.halide_pipeline.specs.Words.{divide, remainder}
use Rattle.bounds_ranges.specs.declared.ranges.Range.{Range}
use Rattle.bounds_ranges.specs.Ranges.{widened, divided_end, divided_ends, divided, remainders, literal}
use Rattle.bounds_ranges.specs.Numbers.{origin, spot}
use Rattle.bounds_ranges.specs.Laws.{Below, Lies}
use Rattle.bounds_ranges.proofs.Lying.{widened_stands, plain_lies}

divided_above : (end c : ℕ) → origin ≤ end → divided_end end c ≡ origin + (end - origin) / c
divided_above end c l = rw (le-leb origin end l) refl

divided_below : (end c : ℕ) → end < origin → divided_end end c ≡ origin - 1 - (origin - 1 - end) / c
divided_below end c l = rw (lt-leb origin end l) refl

rises : (a b c : ℕ) → 1 ≤ c → a ≤ b → a / c ≤ b / c
rises a b c some l =
    let over : b < (b / c + 1) * c = (div-lt_iff_lt-mul {k = c} {x = b} {y = b / c + 1} some).0 (omega arith) in
    let under : a / c < b / c + 1 = (div-lt_iff_lt-mul {k = c} {x = a} {y = b / c + 1} some).1 (omega arith) in
    omega arith

pub divided_rises : (a b c : ℕ) → 1 ≤ c → a ≤ b → divided_end a c ≤ divided_end b c
divided_rises a b c some l = elim (cases_lt a origin) [
  | inl under ↦ elim (cases_lt b origin) [
    | inl also ↦ omega (arith, divided_below a c under, divided_below b c also, rises (origin - 1 - b) (origin - 1 - a) c some (omega arith))
    | inr over ↦ omega (arith, divided_below a c under, divided_above b c over)
  ]
  | inr over ↦ omega (arith, divided_above a c over, divided_above b c (omega arith), rises (a - origin) (b - origin) c some (omega arith))
]

nonzero : (c : ℕ) → 1 ≤ c → (c == 0) ≡ false
nonzero c l = ne_eqb c 0 (λ e. omega arith)

divide_small : (x c : ℕ) → 1 ≤ c → x < 2 ^ 31 → divide x c ≡ x / c
unfolding divide
divide_small x c l s = rw (nonzero c l, lt-ltb x (2 ^ 31) s) refl

divide_large : (x c : ℕ) → 1 ≤ c → 2 ^ 31 ≤ x → divide x c ≡ 2 ^ 32 - 1 - (2 ^ 32 - 1 - x) / c
unfolding divide
divide_large x c l s = rw (nonzero c l, le-ltb x (2 ^ 31) s) refl

pub divide_word : (x c : ℕ) → 1 ≤ c → x < 2 ^ 32 → divide x c < 2 ^ 32
divide_word x c l w = elim (cases_lt x (2 ^ 31)) [
  | inl s ↦ omega (arith, divide_small x c l s, div-le_self x c)
  | inr s ↦ omega (arith, divide_large x c l s)
]

pub divide_spot : (x c : ℕ) → 1 ≤ c → x < 2 ^ 32 → spot (divide x c) ≡ divided_end (spot x) c
divide_spot x c l w = elim (cases_lt x (2 ^ 31)) [
  | inl s ↦
      let at : spot x ≡ origin + x = omega arith in
      let same : spot x - origin ≡ x = omega arith in
      let end : divided_end (spot x) c ≡ origin + x / c = divided_above (spot x) c (omega arith) ∙ ap (λ n. origin + n / c) same in
      let q : divide x c ≡ x / c = divide_small x c l s in
      omega (arith, end, q, div-le_self x c)
  | inr s ↦
      let at : spot x + 2 ^ 32 ≡ origin + x = omega arith in
      let same : origin - 1 - spot x ≡ 2 ^ 32 - 1 - x = omega arith in
      let end : divided_end (spot x) c ≡ origin - 1 - (2 ^ 32 - 1 - x) / c = divided_below (spot x) c (omega arith) ∙ ap (λ n. origin - 1 - n / c) same in
      let q : divide x c ≡ 2 ^ 32 - 1 - (2 ^ 32 - 1 - x) / c = divide_large x c l s in
      omega (arith, end, q, div-le_self (2 ^ 32 - 1 - x) c)
]

pub remainder_below : (x c : ℕ) → 1 ≤ c → remainder x c < c
unfolding remainder
remainder_below x c l = elim (cases_lt x (2 ^ 31)) [
  | inl s ↦ rw (nonzero c l, lt-ltb x (2 ^ 31) s) (mod-lt x l)
  | inr s ↦ rw (nonzero c l, le-ltb x (2 ^ 31) s) (omega arith)
]

module _ (lasts values : List ℕ) (below : Below values lasts) where
  pub divided_lies : (a : Range) (x c : ℕ) → 1 ≤ c → Lies lasts values a x → Lies lasts values (divided lasts a c) (divide x c)
  divided_lies a x c l la =
      let w = widened_stands lasts values below a x la in
      rw (nonzero c l)
      (plain_lies lasts values below (divided_ends (widened lasts a) c) (divide x c) (divide_word x c l la.word)
      (λ fl fh. (
        omega (arith, divide_spot x c l la.word, divided_rises (widened lasts a).low (spot x) c l w.low),
        omega (
          arith,
          divide_spot x c l la.word,
          divided_rises (spot x) (widened lasts a).high c l w.high,
        ),
      )))

  pub remainder_lies : (x c : ℕ) → 1 ≤ c → c ≤ 0x7fffffff → Lies lasts values (remainders lasts c) (remainder x c)
  remainder_lies x c l m =
      let r = remainder_below x c l in
      rw (nonzero c l) (plain_lies lasts values below (record { low = origin; high = origin + c - 1 }) (remainder x c) (omega (arith, r, m))
      (λ fl fh. (omega (arith, r, fl, fh), omega (arith, r, fl, fh))))

  pub literal_lies : (n : ℕ) → n < 2 ^ 32 → Lies lasts values (literal lasts n) n
  literal_lies n l = plain_lies lasts values below (record { low = origin + n; high = origin + n }) n l
      (λ fl fh. (omega (arith, fl, fh), omega (arith, fl, fh)))
