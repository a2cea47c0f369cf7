-- Numbers that are equal up to the greatest that 32 bits hold.
use Rattle.std.proofs.Common.{◌≡◌, ℕ, zero, suc, ◌+◌, ◌*◌, ◌≤◌, refl, ap, ◌∙◌, arith, inl, inr}
use Rattle.std.specs.Prelude.{min, max, Option, None, Some}
use Rattle.std.proofs.lemmas.Bool.{cases_lt}
use Rattle.std.proofs.Math.Nat.{mul-le-mul_right}
use Rattle.bounds_inlining.specs.declared.needs.Need.{Need}
use Rattle.bounds_inlining.specs.inner.Summing.{most, Same, waited, need_at}

pub same_add : (a b c d : ℕ) → Same a b → Same c d → Same (a + c) (b + d)
same_add a b c d e f = omega (arith, e, f)

-- this many times
pub same_times : (n a b : ℕ) → Same a b → Same (n * a) (n * b)
same_times zero a b e = let p : 0 * a ≡ 0 = omega arith in let q : 0 * b ≡ 0 = omega arith in omega (arith, p, q)
same_times (suc n) a b e = elim (cases_lt a most) [
  | inl less ↦ let same : a ≡ b = omega (arith, e, less) in ap (λ (k : ℕ). min (suc n * k) most) same
  | inr more ↦
      let p : 1 * a ≤ suc n * a = mul-le-mul_right a (omega arith) in
      let q : 1 * b ≤ suc n * b = mul-le-mul_right b (omega arith) in
      omega (arith, e, more, p, q)
]

pub same_times_left : (a b n : ℕ) → Same a b → Same (a * n) (b * n)
same_times_left a b n e =
    let p : a * n ≡ n * a = omega arith in
    let q : b * n ≡ n * b = omega arith in
    omega (arith, same_times n a b e, p, q)

-- plain numbers
pub sums_same : (o f s p g t x y : ℕ) → Same o p → Same f g → Same s t → Same (o + (f * x + s * y)) (p + (g * x + t * y))
sums_same o f s p g t x y e h i =
    same_add o p (f * x + s * y) (g * x + t * y) e (same_add (f * x) (g * x) (s * y) (t * y) (same_times_left f g x h) (same_times_left s t y i))

pub plus_parts : (o f s p g t x y : ℕ) → (o + p) + ((f + g) * x + (s + t) * y) ≡ (o + (f * x + s * y)) + (p + (g * x + t * y))
plus_parts o f s p g t x y = omega (arith, add_times f g x, add_times s t y)
  where
    add_times : (a b c : ℕ) → (a + b) * c ≡ a * c + b * c
    add_times a b c = omega arith

pub times_parts : (n o f s x y : ℕ) → (n * o) + ((n * f) * x + (n * s) * y) ≡ n * (o + (f * x + s * y))
times_parts n o f s x y = omega (arith, group n f x, group n s y, times_add n o (f * x + s * y), times_add n (f * x) (s * y))
  where
    group : (a b c : ℕ) → (a * b) * c ≡ a * (b * c)
    group a b c = omega arith

    times_add : (a b c : ℕ) → a * (b + c) ≡ a * b + a * c
    times_add a b c = omega arith

pub applied_same : (func_index f s nn t1 t2 p1 p2 x y m n : ℕ) → Same nn func_index → Same t1 (f * x) → Same t2 (s * y) → Same p1 (t1 + t2) → Same p2 (nn + p1) → Same x m
    → Same y n
    → Same p2 (func_index + (f * m + s * n))
applied_same func_index f s nn t1 t2 p1 p2 x y m n hn h1 h2 hp hq hx hy =
    hq ∙ same_add nn func_index p1 (f * m + s * n) hn
    (hp ∙ same_add t1 (f * m) t2 (s * n) (h1 ∙ same_times f x m hx) (h2 ∙ same_times s y n hy))

pub both_same : (nn k x y m n p q : ℕ) → Same nn k → Same p (x + y) → Same q (nn + p) → Same x m → Same y n → Same q (k + m + n)
both_same nn k x y m n p q hn hp hq hx hy = omega (arith, hn, hp, hq, hx, hy)

pub four_same : (nn w x y k m n p q r : ℕ) → Same nn 1 → Same p (nn + w) → Same q (x + y) → Same r (p + q) → Same w k → Same x m → Same y n
    → Same r (1 + k + m + n)
four_same nn w x y k m n p q r hn hp hq hr hw hx hy = omega (arith, hn, hp, hq, hr, hw, hx, hy)

pub same_max : (a b c d : ℕ) → Same a b → Same c d → Same (max a c) (max b d)
same_max a b c d e f = omega (arith, e, f)

waited_same : (wait : Option ℕ) (x m : ℕ) → Same x m → Same (waited wait x) (waited wait m)
waited_same None x m e = refl
waited_same (Some wait) x m e = omega (arith, e)

pub need_same : (need : Need) (x y m n : ℕ) → Same x m → Same y n → Same (need_at need x y) (need_at need m n)
need_same need x y m n e f =
    same_max need.own need.own (max (waited need.first x) (waited need.second y)) (max (waited need.first m) (waited need.second n)) refl
    (same_max (waited need.first x) (waited need.first m) (waited need.second y) (waited need.second n) (waited_same need.first x m e) (waited_same need.second
    y n f))
