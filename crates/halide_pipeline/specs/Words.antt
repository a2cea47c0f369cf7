-- Words: numbers below 2^32, each standing for the signed number from -2^31 to 2^31 - 1 that it is
-- congruent to modulo 2^32.
-- This project's own.
use Rattle.std.specs.Prelude.{ℕ, ◌+◌, ◌-◌, ◌*◌, ◌/◌, ◌%◌, ◌^◌, Bool, not, nat_lt, if◌then◌else◌, ◌==◌}
use Rattle.halide_pipeline.specs.declared.expressions.Operation.{Operation}
use Rattle.halide_pipeline.specs.declared.expressions.Operation.TheVariants as op

unfoldable pub add : ℕ → ℕ → ℕ
add x y = (x + y) % 2 ^ 32

unfoldable pub subtract : ℕ → ℕ → ℕ
subtract x y = (x + (2 ^ 32 - y)) % 2 ^ 32

unfoldable pub multiply : ℕ → ℕ → ℕ
multiply x y = (x * y) % 2 ^ 32

-- The quotient rounded to minus infinity. The word 2^32 - 1 - n stands for -1 - n, whose quotient is -1 - n / c.
unfoldable pub divide : ℕ → ℕ → ℕ
divide x c = if c == 0 then 0 else (if nat_lt x (2 ^ 31) then x / c else 2 ^ 32 - 1 - (2 ^ 32 - 1 - x) / c)

-- The remainder from 0 to c - 1. That of -1 - n is c - 1 - n % c.
unfoldable pub remainder : ℕ → ℕ → ℕ
remainder x c = if c == 0 then 0 else (if nat_lt x (2 ^ 31) then x % c else c - 1 - (2 ^ 32 - 1 - x) % c)

-- the order of signed numbers is that of the words half a turn further
unfoldable pub less : ℕ → ℕ → Bool
less x y = nat_lt ((x + 2 ^ 31) % 2 ^ 32) ((y + 2 ^ 31) % 2 ^ 32)

abbrev pub minimum : ℕ → ℕ → ℕ
minimum x y = if less y x then y else x

abbrev pub maximum : ℕ → ℕ → ℕ
maximum x y = if less x y then y else x

-- the word of a comparison
abbrev pub truth : Bool → ℕ
truth holds = if holds then 1 else 0

-- what an operation makes of two words
abbrev pub applied : Operation → ℕ → ℕ → ℕ
applied op.Add x y = add x y
applied op.Subtract x y = subtract x y
applied op.Multiply x y = multiply x y
applied op.Minimum x y = minimum x y
applied op.Maximum x y = maximum x y
applied op.Less x y = truth (less x y)
applied op.LessOrEqual x y = truth (not (less y x))
applied op.Greater x y = truth (less y x)
applied op.GreaterOrEqual x y = truth (not (less x y))
applied op.Equal x y = truth (x == y)
applied op.NotEqual x y = truth (not (x == y))
