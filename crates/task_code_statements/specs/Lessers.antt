-- Lessers of sums and numbers. This project's own.
use Rattle.std.specs.Prelude.{◌≡◌, ◌<◌, ℕ, List}
use Rattle.halide_pipeline.specs.Words as word
use Rattle.halide_pipeline.specs.Pixel.{Reads}
use Rattle.loop_ir.specs.declared.expressions.Expr.{Expr}
use Rattle.loop_ir.specs.declared.expressions.Linear.{Linear}
use Rattle.loop_ir.specs.Counters.{Values}
use Rattle.loop_ir.specs.Expressions.{linear_value, value}
use Rattle.task_code_loops.specs.declared.bounds.Bound.{Bound}
use Rattle.task_code_loops.specs.Bounds.{AreBelow}

-- an expression is the lesser of a sum and a number, as numbers with a sign
pub record IsLesser (sum : Linear) (number : ℕ) (new_expression : Expr) : Type 0 where
  pub value_is : (reads : Reads) (values : Values) → value reads values new_expression ≡ word.minimum (linear_value values sum) number

-- an expression stays below a number wherever variables are below their counts
abbrev pub StaysBelow : List Bound → Expr → ℕ → Type 0
StaysBelow bounds e count = (reads : Reads) (values : Values) → AreBelow bounds values → value reads values e < count
