-- Values of split loops as sums. This project's own.
use Rattle.std.specs.Prelude.{◌≡◌, ◌<◌, ℕ, ◌%◌, ◌^◌, min, [], Option, None, Some}
use Rattle.halide_pipeline.specs.Pixel.{Reads}
use Rattle.halide_pipeline.specs.Words as word
use Rattle.loop_ir.specs.declared.expressions.Counter.{Counter}
use Rattle.loop_ir.specs.declared.expressions.Expr.{Expr}
use Rattle.loop_ir.specs.declared.expressions.Linear.{Linear}
use Rattle.loop_ir.specs.declared.statements.Whole.{Whole}
use Rattle.loop_ir.specs.Counters.{Values}
use Rattle.loop_ir.specs.Expressions.{linear_value, loads, value}
use Rattle.loop_ir.specs.Running.{at_most, whole_value}
use Rattle.task_code_loops.specs.Known.{AreKnown}
use Rattle.task_code_vector_loops.specs.Naming.{AreNamed}
use Rattle.task_code_statements.specs.declared.contexts.Context.{Context}
use Rattle.task_code_statements.specs.declared.splits.Entered.{Entered}
use Rattle.task_code_statements.specs.declared.splits.TaskStart.{TaskStart}
use Rattle.task_code_statements.specs.declared.splits.TaskStart.TheVariants as starts
use Rattle.task_code_statements.specs.Contexts.{Meets, MeetsSum}

-- a sum has a split loop's value wherever the context holds, and that value depends on no name
pub record IsSplitSum (context : Context) (whole : Whole) (sum : Linear) : Type 0 where
  pub value_is : (values : Values) → Meets context values → linear_value values sum ≡ whole_value whole values
  pub plain : (values named : Values) → AreNamed values named → whole_value whole named ≡ whole_value whole values

-- where a split loop's variable is at its value, which is a form
pub record EntersSplit (context : Context) (counter : Counter) (whole : Whole) (entered : Entered) : Type 0 where
  pub value_is : IsSplitSum context whole entered.form.sum
  pub meets : MeetsSum context counter entered.form.sum entered.inner
  pub form_is : entered.form ≡ record { sum = entered.form.sum; per_hart = 0 }

-- ---- where a run of the inner loop begins

-- the product of the outer variable and the factor
abbrev pub product : Whole → Values → ℕ
product whole values = word.multiply (values whole.outer) whole.factor

-- a sum is that product
pub record IsProduct (context : Context) (whole : Whole) (sum : Linear) : Type 0 where
  pub value_is : (values : Values) → AreKnown context.known.items values → linear_value values sum ≡ product whole values

-- a name has the value of the lesser of a sum and a number, as numbers without a sign, wherever the context holds
abbrev pub HasLesser : Context → Linear → ℕ → Counter → Type 0
HasLesser context sum number counter = (values : Values) → Meets context values → values counter ≡ min (linear_value values sum) number

-- the lesser of a run's product and the last start, as numbers with a sign
abbrev pub signed_start : Option ℕ → ℕ → ℕ
signed_start None n = n
signed_start (Some last) n = word.minimum n last

-- an expression has this value
pub record IsStart (context : Context) (whole : Whole) (e : Expr) : Type 0 where
  pub value_is : (reads : Reads) (values : Values) → AreKnown context.known.items values
      → value reads values e ≡ signed_start whole.last (product whole values)

-- the value of a start, or another number where it isn't known
abbrev pub start_value : Whole → ℕ → TaskStart → Values → ℕ
start_value whole other starts.Product values = product whole values
start_value whole other (starts.Number number) values = number
start_value whole other (starts.Name counter) values = values counter
start_value whole other starts.Unknown values = other

-- a run begins there, wherever the context holds; of an unknown start this says nothing
abbrev pub BeginsRun : Context → Whole → TaskStart → Type 0
BeginsRun context whole start =
    (values : Values) → Meets context values
    → at_most whole.last (product whole values) ≡ start_value whole (at_most whole.last (product whole values)) start values

-- a sum is that of a start and the inner variable, as no sum is of an unknown start
abbrev pub AddsInner : Whole → TaskStart → Linear → Type 0
AddsInner whole start sum =
    (other : ℕ) (values : Values) → linear_value values sum ≡ word.add (start_value whole other start values) (values whole.inner)

-- ---- values that are no sums

-- An expression that loads nothing has a split loop's value wherever the context holds, and stays below an extent.
pub record IsValueOf (context : Context) (whole : Whole) (extent : ℕ) (e : Expr) : Type 0 where
  pub value_is : (reads : Reads) (values : Values) → Meets context values → value reads values e ≡ whole_value whole values
  pub none : (reads : Reads) (values : Values) → loads reads values e ≡ []
  pub below : (values : Values) → Meets context values → whole_value whole values < extent

-- so it is, and the value depends on no name
pub record IsSplitValue (context : Context) (whole : Whole) (extent : ℕ) (e : Expr) : Type 0 where
  pub own : IsValueOf context whole extent e
  pub plain : (values named : Values) → AreNamed values named → whole_value whole named ≡ whole_value whole values

-- a run begins at an expression's value
abbrev pub BeginsAt : Context → Whole → Expr → Type 0
BeginsAt context whole e =
    (reads : Reads) (values : Values) → Meets context values → value reads values e ≡ at_most whole.last (product whole values)

-- a sum is the inner variable, and stays below a number
pub record IsInner (context : Context) (whole : Whole) (count : ℕ) (sum : Linear) : Type 0 where
  pub value_is : (values : Values) → Meets context values → linear_value values sum ≡ values whole.inner % 2 ^ 32
  pub below : (values : Values) → Meets context values → linear_value values sum < count
