-- How sums of loop variables go along with one of them, and which go along alike. This project's own.
use Rattle.std.specs.Prelude.{◌≡◌, ◌⊎◌, ℕ, ◌+◌, ◌%◌, ◌^◌, Bool, true, false, if◌then◌else◌, List, [], ◌∷◌}
use Rattle.loop_ir.specs.declared.expressions.Counter.{Counter}
use Rattle.loop_ir.specs.declared.expressions.Term.{Term}
use Rattle.loop_ir.specs.Counters.{same_counter}

-- the sum of a variable's strides
abbrev pub strides : Counter → List Term → ℕ
strides counter [] = 0
strides counter (first ∷ others) = if same_counter first.counter counter then first.stride + strides counter others else strides counter others

-- the terms of all other variables
abbrev pub others_of : Counter → List Term → List Term
others_of counter [] = []
others_of counter (first ∷ others) = if same_counter first.counter counter then others_of counter others else first ∷ others_of counter others

-- whether there is a term of it
abbrev pub has_counter : Counter → List Term → Bool
has_counter counter [] = false
has_counter counter (first ∷ others) = if same_counter first.counter counter then true else has_counter counter others

-- two sums of terms have the same stride in all, modulo 2^32, of each variable of these terms
abbrev pub AgreeOn : List Term → List Term → List Term → Type 0
AgreeOn terms a b =
    (counter : Counter) → (has_counter counter terms ≡ false) ⊎
    (strides counter a % 2 ^ 32 ≡ strides counter b % 2 ^ 32)
