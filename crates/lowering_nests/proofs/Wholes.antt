-- The value of a loop that is split, in words.
use Rattle.std.proofs.Common.{◌≡◌, ℕ, ◌+◌, ◌-◌, ◌*◌, ◌^◌, ◌<◌, ◌≤◌, ap, ◌∙◌, arith}
use Rattle.std.specs.Prelude.{min}
use Rattle.std.proofs.Math.Nat.{mod-eq_of_lt, mul-le-mul}
use Rattle.halide_pipeline.specs.Words as word

product_below : (x n : ℕ) → x < 2 ^ 25 → n ≤ 64 → x * n < 2 ^ 31
product_below x n few small =
    let a : x ≤ 2 ^ 25 - 1 = omega (arith, few) in
    let m : x * n ≤ (2 ^ 25 - 1) * 64 = mul-le-mul a small in
    omega (arith, m)

product_is : (x n : ℕ) → x < 2 ^ 25 → n ≤ 64 → word.multiply x n ≡ x * n
unfolding word.multiply
product_is x n few small = let m = product_below x n few small in mod-eq_of_lt {n = x * n} {m = 2 ^ 32} (omega (arith, m))

sum_is : (x y : ℕ) → x < 2 ^ 31 → y < 2 ^ 31 → word.add x y ≡ x + y
unfolding word.add
sum_is x y few small = mod-eq_of_lt {n = x + y} {m = 2 ^ 32} (omega (arith, few, small))

pub guarded : (outer inner factor : ℕ) → outer < 2 ^ 25 → inner < 2 ^ 25 → factor ≤ 64 → word.add (word.multiply outer factor) inner ≡ outer * factor + inner
guarded outer inner factor few small factor_small =
    let m = product_below outer factor few factor_small in
    ap (λ (n : ℕ). word.add n inner) (product_is outer factor few factor_small) ∙ sum_is (outer * factor) inner m (omega (arith, small))

pub shifted : (outer inner factor last : ℕ) → outer < 2 ^ 25 → inner < 2 ^ 25 → factor ≤ 64 → word.add (min (word.multiply outer factor) last) inner
    ≡ min (outer * factor) last + inner
shifted outer inner factor last few small factor_small =
    let m = product_below outer factor few factor_small in
    ap (λ (n : ℕ). word.add (min n last) inner) (product_is outer factor few factor_small) ∙ sum_is (min (outer * factor) last) inner (omega (arith, m))
    (omega (arith, small))
