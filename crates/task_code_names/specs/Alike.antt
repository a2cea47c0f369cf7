-- Expressions that come to the same. This project's own.
use Rattle.std.specs.Prelude.{◌≡◌}
use Rattle.halide_pipeline.specs.Pixel.{Reads}
use Rattle.loop_ir.specs.declared.expressions.Expr.{Expr}
use Rattle.loop_ir.specs.declared.statements.Store.{Store}
use Rattle.loop_ir.specs.Counters.{Values}
use Rattle.loop_ir.specs.Expressions.{value, loads}

-- Wherever something is so of loop variables, an expression comes to the same as another one, and loads the same points.
pub record IsAlike (is_so : Values → Type 0) (expression new_expression : Expr) : Type 0 where
  pub value_is : (reads : Reads) (values : Values) → is_so values
      → value reads values new_expression ≡ value reads values expression
  pub loads_are : (reads : Reads) (values : Values) → is_so values
      → loads reads values new_expression ≡ loads reads values expression

-- so it is with all parts of a store
pub record IsAlikeStore (is_so : Values → Type 0) (store new_store : Store) : Type 0 where
  pub func_is : new_store.func ≡ store.func
  pub column : IsAlike is_so store.x new_store.x
  pub row : IsAlike is_so store.y new_store.y
  pub pixel : IsAlike is_so store.value new_store.value
