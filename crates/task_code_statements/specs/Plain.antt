-- Expressions without names. This project's own.
use Rattle.std.specs.Prelude.{◌≡◌}
use Rattle.halide_pipeline.specs.Pixel.{Reads}
use Rattle.loop_ir.specs.declared.expressions.Expr.{Expr}
use Rattle.loop_ir.specs.declared.statements.Store.{Store}
use Rattle.loop_ir.specs.Counters.{Values}
use Rattle.loop_ir.specs.Expressions.{value, loads}
use Rattle.task_code_vector_loops.specs.Naming.{AreNamed}

-- an expression comes to the same whatever values names have, and loads the same points
pub record IsPlain (expression : Expr) : Type 0 where
  pub value_is : (reads : Reads) (values named : Values) → AreNamed values named → value reads named expression ≡ value reads values expression
  pub loads_are : (reads : Reads) (values named : Values) → AreNamed values named → loads reads named expression ≡ loads reads values expression

-- so do all parts of a store
pub record IsPlainStore (store : Store) : Type 0 where
  pub column : IsPlain store.x
  pub row : IsPlain store.y
  pub pixel : IsPlain store.value
