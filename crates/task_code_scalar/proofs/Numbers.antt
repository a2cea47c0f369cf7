-- Arithmetic of words.
use Rattle.std.proofs.Common.{◌≡◌, ℕ, zero, suc, ◌+◌, ◌-◌, ◌*◌, ◌%◌, ◌^◌, ◌<◌, ◌≤◌, Bool, true, false, refl, ap, ◌∙◌, sym, arith, inl, inr}
use Rattle.std.specs.Prelude.{◌≢◌, ◌==◌, if◌then◌else◌, nat_lt, not}
use Rattle.std.proofs.lemmas.Bool.Decides.{nat_tests}
use Rattle.std.proofs.lemmas.Bool.{cases_lt}
use Rattle.lanes.specs.Words as lanes
use Rattle.multi_hart_laws.specs.Scalar.{one_if, extended}
use Rattle.halide_pipeline.specs.Words as word
use Rattle.task_code_scalar.specs.Code.{upper, lower}

-- upper and lower part make the literal
pub parts : (v : ℕ) → v < 2 ^ 32 → lanes.add 32 (upper v * 2 ^ 12) (extended (lower v)) ≡ v
parts v l = elim (cases_lt (v % 4096) 2048) [
  | inl a ↦
      let t : nat_lt (v % 4096) 2048 ≡ true = grind (arith, nat_tests) in
      rw t (omega (arith, a, l))
  | inr b ↦
      let t : nat_lt (v % 4096) 2048 ≡ false = grind (arith, nat_tests) in
      rw t (omega (arith, b, l))
]

-- b, where c is 1, else a
pub blended : (c : Bool) (a b : ℕ) → a < 2 ^ 32 → b < 2 ^ 32 → lanes.add 32 a (lanes.multiply 32 (lanes.sub 32 b a) (one_if c)) ≡ (if c then b else a)
blended true a b la lb = omega (arith, la, lb)
blended false a b la lb = omega (arith, la, lb)

pub not-zero : (c : ℕ) (a b : ℕ) → (if nat_lt 0 c then a else b) ≡ (if c == 0 then b else a)
not-zero zero a b = refl
not-zero (suc c) a b =
    let t : nat_lt 0 (suc c) ≡ true = grind (arith, nat_tests) in
    let u : (suc c == 0) ≡ false = grind (arith, nat_tests) in
    rw (t, u) refl

-- 1 in place of 0 and 0 in place of 1
pub swapped : (c : Bool) → one_if (nat_lt (one_if c) 1) ≡ one_if (not c)
swapped true = refl
swapped false = refl

-- ---- order: that of signed numbers is that of the words half a turn further

same-test : (a b c d : ℕ) → (a < b → c < d) → (c < d → a < b) → nat_lt a b ≡ nat_lt c d
same-test a b c d f g = elim (cases_lt a b) [
  | inl l ↦ let r = f l in let s : nat_lt a b ≡ true = grind (arith, nat_tests) in let t : nat_lt c d ≡ true = grind (arith, nat_tests, r) in s ∙ sym t
  | inr l ↦
      elim (cases_lt c d) [
        | inl r ↦ let x = g r in absurd (omega (arith, l, x))
        | inr r ↦ let s : nat_lt a b ≡ false = grind (arith, nat_tests) in let t : nat_lt c d ≡ false = grind (arith, nat_tests, r) in s ∙ sym t
      ]
]

lt-true : (a b : ℕ) → a < b → nat_lt a b ≡ true
lt-true a b l = grind (arith, nat_tests)

lt-false : (a b : ℕ) → b ≤ a → nat_lt a b ≡ false
lt-false a b l = grind (arith, nat_tests)

low-swapped : (x : ℕ) → x < 2147483648 → (x + 2147483648) % 4294967296 ≡ x + 2147483648
low-swapped x l = omega (arith, l)

high-swapped : (x : ℕ) → 2147483648 ≤ x → x < 4294967296 → (x + 2147483648) % 4294967296 ≡ x - 2147483648
high-swapped x l h = omega (arith, l, h)

less-swapped : (x y : ℕ) → x < 4294967296 → y < 4294967296 → lanes.less_signed 32 x y ≡ nat_lt ((x + 2147483648) % 4294967296) ((y + 2147483648) % 4294967296)
less-swapped x y lx ly = elim (cases_lt x 2147483648) [
  | inl a ↦ elim (cases_lt y 2147483648) [
    | inl c ↦ rw (lt-true x 2147483648 a, lt-true y 2147483648 c, low-swapped x a, low-swapped y c) (same-test x y (x + 2147483648) (y + 2147483648)
        (λ l. omega (arith, l)) (λ l. omega (arith, l)))
    | inr c ↦ rw (lt-true x 2147483648 a, lt-false y 2147483648 c, low-swapped x a, high-swapped y c ly)
        (sym (lt-false (x + 2147483648) (y - 2147483648) (omega (arith, a, c, ly))))
  ]
  | inr a ↦ elim (cases_lt y 2147483648) [
    | inl c ↦ rw (lt-false x 2147483648 a, lt-true y 2147483648 c, high-swapped x a lx, low-swapped y c)
        (sym (lt-true (x - 2147483648) (y + 2147483648) (omega (arith, a, c, lx))))
    | inr c ↦ rw (lt-false x 2147483648 a, lt-false y 2147483648 c, high-swapped x a lx, high-swapped y c ly)
        (same-test (4294967296 - suc y) (4294967296 - suc x) (x - 2147483648) (y - 2147483648) (λ l. omega (arith, l, a, c, lx, ly))
        (λ l. omega (arith, l, a, c, lx, ly)))
  ]
]

pub less-is : (x y : ℕ) → x < 2 ^ 32 → y < 2 ^ 32 → lanes.less_signed 32 x y ≡ word.less x y
unfolding word.less
less-is x y lx ly = less-swapped x y lx ly

-- ---- equal words leave 0

zero-test : (d x y : ℕ) → (d ≡ 0 → x ≡ y) → (x ≡ y → d ≡ 0) → nat_lt d 1 ≡ (x == y)
zero-test zero x y f g = let e = f refl in let t : (x == y) ≡ true = grind (arith, nat_tests, e) in sym t
zero-test (suc d) x y f g =
    let n : x ≢ y = (λ e. let z = g e in omega (arith, z)) in
    let t : (x == y) ≡ false = grind (arith, nat_tests, n) in
    let u : nat_lt (suc d) 1 ≡ false = grind (arith, nat_tests) in
    u ∙ sym t

pub equal-is : (x y : ℕ) → x < 2 ^ 32 → y < 2 ^ 32 → nat_lt (lanes.sub 32 x y) 1 ≡ (x == y)
equal-is x y lx ly = zero-test (lanes.sub 32 x y) x y (λ e. omega (arith, e, lx, ly)) (λ e. omega (arith, e, lx, ly))

opposite-tests : (n : ℕ) → nat_lt 0 n ≡ not (nat_lt n 1)
opposite-tests zero = refl
opposite-tests (suc n) =
    let t : nat_lt 0 (suc n) ≡ true = grind (arith, nat_tests) in
    let u : nat_lt (suc n) 1 ≡ false = grind (arith, nat_tests) in
    rw (t, u) refl

pub not-equal-is : (x y : ℕ) → x < 2 ^ 32 → y < 2 ^ 32 → nat_lt 0 (lanes.sub 32 x y) ≡ not (x == y)
not-equal-is x y lx ly = opposite-tests (lanes.sub 32 x y) ∙ ap not (equal-is x y lx ly)
