-- Stores in which an expression stands for a loop variable. This project's own.
use Rattle.std.specs.Prelude.{◌≡◌, ◌<◌, ℕ, ◌*◌, ◌%◌, ◌^◌, []}
use Rattle.halide_pipeline.specs.Pixel.{Reads}
use Rattle.halide_pipeline.specs.Words as word
use Rattle.loop_ir.specs.declared.expressions.Counter.{Counter}
use Rattle.loop_ir.specs.declared.expressions.Expr.{Expr}
use Rattle.loop_ir.specs.declared.expressions.Linear.{Linear}
use Rattle.loop_ir.specs.declared.statements.Store.{Store}
use Rattle.loop_ir.specs.Counters.{Values, with}
use Rattle.loop_ir.specs.Expressions.{linear_value, value, loads}
use Rattle.task_code_names.specs.Alike.{IsAlike, IsAlikeStore}
use Rattle.task_code_statements.specs.declared.replacing.Replacement.{Replacement}

-- a variable is at the value of an expression that loads nothing
pub record StandsAt (replacement : Replacement) (values : Values) : Type 0 where
  pub before : Values
  pub at : ℕ
  pub is : values ≡ with replacement.counter at before
  pub value_is : (reads : Reads) → value reads values replacement.e ≡ at % 2 ^ 32
  pub none : (reads : Reads) → loads reads values replacement.e ≡ []

-- wherever it does, an expression comes to the same as another one, and loads the same points
abbrev pub IsReplaced : Replacement → Expr → Expr → Type 0
IsReplaced replacement e expression = IsAlike (StandsAt replacement) e expression

-- so it is with all parts of a store
abbrev pub IsReplacedStore : Replacement → Store → Store → Type 0
IsReplacedStore replacement store new_store = IsAlikeStore (StandsAt replacement) store new_store

-- ---- sums

-- an expression that loads nothing is the variable times a stride
pub record IsTimes (replacement : Replacement) (stride : ℕ) (new_expression : Expr) : Type 0 where
  pub value_is : (reads : Reads) (values : Values) (stands : StandsAt replacement values) → value reads values new_expression ≡ (stands.at * stride) % 2 ^ 32
  pub none : (reads : Reads) (values : Values) → StandsAt replacement values → loads reads values new_expression ≡ []

-- an expression is another one, which is a word, and a sum
pub record AddsSum (e : Expr) (sum : Linear) (expression : Expr) : Type 0 where
  pub value_is : (reads : Reads) (values : Values) → value reads values e < 2 ^ 32
      → value reads values expression ≡ word.add (value reads values e) (linear_value values sum)
  pub loads_are : (reads : Reads) (values : Values) → loads reads values expression ≡ loads reads values e

-- a sum is another one where a variable is at 0
abbrev pub IsRest : Counter → Linear → Linear → Type 0
IsRest counter sum new_sum = (values : Values) (v : ℕ) → linear_value (with counter v values) new_sum ≡ linear_value (with counter 0 values) sum
