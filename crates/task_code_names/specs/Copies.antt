-- Expressions that load nothing. This project's own.
use Rattle.std.specs.Prelude.{◌≡◌, []}
use Rattle.halide_pipeline.specs.Pixel.{Reads}
use Rattle.loop_ir.specs.declared.expressions.Expr.{Expr}
use Rattle.loop_ir.specs.Counters.{Values}
use Rattle.loop_ir.specs.Expressions.{value, loads}

-- whatever sources hold, an expression comes to the same
pub record IsLoadFree (expression : Expr) : Type 0 where
  pub value_is : (reads other : Reads) (values : Values) → value reads values expression ≡ value other values expression
  pub none : (reads : Reads) (values : Values) → loads reads values expression ≡ []
