-- Expressions whose loop variable is further by the value of another one. This project's own.
use Rattle.std.specs.Prelude.{◌≡◌, ℕ, ◌+◌, false}
use Rattle.halide_pipeline.specs.Pixel.{Reads}
use Rattle.loop_ir.specs.declared.expressions.Counter.{Counter}
use Rattle.loop_ir.specs.declared.expressions.Expr.{Expr}
use Rattle.loop_ir.specs.declared.expressions.Linear.{Linear}
use Rattle.loop_ir.specs.Counters.{Values, same_counter, with}
use Rattle.loop_ir.specs.Expressions.{linear_value, value, loads}
use Rattle.task_code_vector_loops.specs.declared.further.Further.{Further}

-- In `values` the loop variable is at `by + iteration`. In `moved` it is at `iteration`, and the other variable at `by`. All variables but these two have
-- the same values in both.
pub record GoesOn (own_further : Further) (values moved : Values) : Type 0 where
  pub by : ℕ
  pub iteration : ℕ
  pub here : Values
  pub there : Values
  pub apart : same_counter own_further.by own_further.counter ≡ false
  pub values_are : values ≡ with own_further.counter (by + iteration) here
  pub moved_are : moved ≡ with own_further.counter iteration there
  pub at : there own_further.by ≡ by
  pub same : (counter : Counter) → same_counter counter own_further.by ≡ false → there counter ≡ here counter

-- one sum has in `moved` the value that another one has in `values`
abbrev pub IsFurtherSum : Further → Linear → Linear → Type 0
IsFurtherSum own_further sum new_sum = (values moved : Values) → GoesOn own_further values moved → linear_value moved new_sum ≡ linear_value values sum

-- so has an expression, and it loads the same points
pub record IsFurther (own_further : Further) (e expression : Expr) : Type 0 where
  pub value_is : (reads : Reads) (values moved : Values) → GoesOn own_further values moved → value reads moved expression ≡ value reads values e
  pub loads_are : (reads : Reads) (values moved : Values) → GoesOn own_further values moved → loads reads moved expression ≡ loads reads values e
