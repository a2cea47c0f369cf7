-- Sums and products of numbers that are cut at the greatest that 32 bits hold.
use Rattle.std.proofs.Common.{◌≡◌, ℕ, ◌+◌, ◌*◌, ◌∙◌, arith}
use Rattle.bounds_inlining.proofs.Capping.{same_times, same_times_left}
use Rattle.bounds_weights.specs.inner.Tables.{capped}

pub plus_capped : (x y a b r : ℕ) → x ≡ capped a → y ≡ capped b → r ≡ capped (x + y) → r ≡ capped (a + b)
plus_capped x y a b r e f g = omega (arith, e, f, g)

pub times_capped : (x y a b r : ℕ) → x ≡ capped a → y ≡ capped b → r ≡ capped (x * y) → r ≡ capped (a * b)
times_capped x y a b r e f g = g ∙ same_times x y b (omega (arith, f)) ∙ same_times_left x a b (omega (arith, e))

pub times_first : (x y b r : ℕ) → y ≡ capped b → r ≡ capped (x * y) → r ≡ capped (x * b)
times_first x y b r f g = g ∙ same_times x y b (omega (arith, f))
