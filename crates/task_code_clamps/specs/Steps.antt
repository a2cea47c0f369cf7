-- Clamps that cut at one number alone, as sums with a test. This project's own.
use Rattle.std.specs.Prelude.{◌≡◌, ℕ, []}
use Rattle.halide_pipeline.specs.declared.expressions.Operation.{Operation}
use Rattle.halide_pipeline.specs.Pixel.{Reads}
use Rattle.halide_pipeline.specs.Words as word
use Rattle.loop_ir.specs.declared.expressions.Expr.{Expr}
use Rattle.loop_ir.specs.declared.expressions.Linear.{Linear}
use Rattle.loop_ir.specs.Counters.{Values}
use Rattle.loop_ir.specs.Expressions.{linear_value, value, loads}
use Rattle.task_code_clamps.specs.declared.clamps.Ranged.{Ranged}
use Rattle.task_code_clamps.specs.declared.ranges.LevelRange.{LevelRange}
use Rattle.task_code_clamps.specs.Ranges.{LiesIn}

-- a sum is so much more
abbrev pub IsMore : Linear → ℕ → Linear → Type 0
IsMore new_sum more linear = (values : Values) → linear_value values linear ≡ word.add (linear_value values new_sum)
    more

-- an expression is a sum, and 1 more where that is below a number, or 1 less where it is above; it loads nothing
pub record IsSteppedUp (sum : Linear) (number : ℕ) (expression : Expr) : Type 0 where
  pub value_is : (reads : Reads) (values : Values)
      → value reads values expression ≡ word.add (linear_value values sum) (word.truth (word.less (linear_value values sum) number))
  pub none : (reads : Reads) (values : Values) → loads reads values expression ≡ []

pub record IsSteppedDown (new_sum : Linear) (number : ℕ) (expression : Expr) : Type 0 where
  pub value_is : (reads : Reads) (values : Values)
      → value reads values expression ≡ word.subtract (linear_value values new_sum) (word.truth (word.less number (linear_value values new_sum)))
  pub none : (reads : Reads) (values : Values) → loads reads values expression ≡ []

-- it is the greater of a sum and a number, or the lesser, where the sum lies in a range
pub record IsGreater (sum : Linear) (range : LevelRange) (number : ℕ) (expression : Expr) : Type 0 where
  pub value_is : (reads : Reads) (values : Values) → LiesIn range (linear_value values sum)
      → value reads values expression ≡ word.maximum (linear_value values sum) number
  pub none : (reads : Reads) (values : Values) → loads reads values expression ≡ []

pub record IsLesser (sum : Linear) (range : LevelRange) (number : ℕ) (expression : Expr) : Type 0 where
  pub value_is : (reads : Reads) (values : Values) → LiesIn range (linear_value values sum)
      → value reads values expression ≡ word.minimum (linear_value values sum) number
  pub none : (reads : Reads) (values : Values) → loads reads values expression ≡ []

-- It is what an operation makes of two others, where the first lies in its range. None of the three loads anything.
pub record IsTested (operation : Operation) (a b : Ranged) (expression : Expr) : Type 0 where
  pub value_is : (reads : Reads) (values : Values) → LiesIn a.range (value reads values a.e)
      → value reads values expression ≡ word.applied operation (value reads values a.e) (value reads values b.e)
  pub none : (reads : Reads) (values : Values) → loads reads values expression ≡ []
  pub first_none : (reads : Reads) (values : Values) → loads reads values a.e ≡ []
  pub second_none : (reads : Reads) (values : Values) → loads reads values b.e ≡ []
