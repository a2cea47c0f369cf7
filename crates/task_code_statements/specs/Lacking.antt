-- Expressions without a loop variable. This project's own.
use Rattle.std.specs.Prelude.{◌≡◌, ℕ}
use Rattle.halide_pipeline.specs.Pixel.{Reads}
use Rattle.loop_ir.specs.declared.expressions.Counter.{Counter}
use Rattle.loop_ir.specs.declared.expressions.Expr.{Expr}
use Rattle.loop_ir.specs.declared.statements.Store.{Store}
use Rattle.loop_ir.specs.Counters.{Values, with}
use Rattle.loop_ir.specs.Expressions.{value, loads}

-- an expression comes to the same wherever the variable is, and loads the same points
pub record Lacks (counter : Counter) (expression : Expr) : Type 0 where
  pub value_is : (reads : Reads) (values : Values) (v : ℕ) → value reads (with counter v values) expression ≡ value reads values expression
  pub loads_are : (reads : Reads) (values : Values) (v : ℕ) → loads reads (with counter v values) expression ≡ loads reads values expression

-- so do all parts of a store
pub record StoreLacks (counter : Counter) (store : Store) : Type 0 where
  pub column : Lacks counter store.x
  pub row : Lacks counter store.y
  pub pixel : Lacks counter store.value
