-- What operations make of sums of loop variables. This project's own.
use Rattle.std.specs.Prelude.{◌≡◌, ℕ}
use Rattle.halide_pipeline.specs.declared.expressions.Operation.{Operation}
use Rattle.halide_pipeline.specs.Words as word
use Rattle.loop_ir.specs.declared.expressions.Linear.{Linear}
use Rattle.loop_ir.specs.Counters.{Values}
use Rattle.loop_ir.specs.Expressions.{linear_value}

-- a sum is this many times another one
abbrev pub IsTimes : Linear → ℕ → Linear → Type 0
IsTimes sum factor new_sum = (values : Values) → linear_value values new_sum ≡ word.multiply (linear_value values sum)
    factor

-- it is what an operation makes of two others
abbrev pub IsCombined : Operation → Linear → Linear → Linear → Type 0
IsCombined operation x y sum =
    (values : Values) → linear_value values sum ≡ word.applied operation (linear_value values x) (linear_value values y)
