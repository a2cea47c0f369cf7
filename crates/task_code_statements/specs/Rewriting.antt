-- Stores by other loop variables than the known ones. This project's own.
use Rattle.std.specs.Prelude.{◌≡◌, List, [], ◌++◌}
use Rattle.halide_pipeline.specs.declared.expressions.Operation.{Operation}
use Rattle.halide_pipeline.specs.Words as word
use Rattle.halide_pipeline.specs.Pixel.{Reads}
use Rattle.loop_ir.specs.declared.expressions.Expr.{Expr}
use Rattle.loop_ir.specs.declared.expressions.Linear.{Linear}
use Rattle.loop_ir.specs.declared.statements.Store.{Store}
use Rattle.loop_ir.specs.Counters.{Values}
use Rattle.loop_ir.specs.Expressions.{linear_value, value, loads}
use Rattle.task_code_loops.specs.declared.known.KnownSum.{KnownSum}
use Rattle.task_code_loops.specs.Known.{AreKnown}
use Rattle.task_code_names.specs.Alike.{IsAlike, IsAlikeStore}

-- an expression comes to the same wherever these are known, and loads the same points
abbrev pub IsSameExpr : List KnownSum → Expr → Expr → Type 0
IsSameExpr known expression new_expression = IsAlike (AreKnown known) expression new_expression

-- a store writes the same value at the same point
abbrev pub IsSameStore : List KnownSum → Store → Store → Type 0
IsSameStore known store new_store = IsAlikeStore (AreKnown known) store new_store

-- ---- operations

-- an expression is what an operation makes of two others, and loads what they load
pub record IsBinary (operation : Operation) (a b new_expression : Expr) : Type 0 where
  pub value_is : (reads : Reads) (values : Values) → value reads values new_expression ≡ word.applied operation (value reads values a) (value reads values b)
  pub loads_are : (reads : Reads) (values : Values) → loads reads values new_expression ≡ loads reads values a ++ loads reads values b

-- an expression is a sum, and loads nothing
pub record IsLeafSum (expression : Expr) (sum : Linear) : Type 0 where
  pub value_is : (reads : Reads) (values : Values) → linear_value values sum ≡ value reads values expression
  pub none : (reads : Reads) (values : Values) → loads reads values expression ≡ []
