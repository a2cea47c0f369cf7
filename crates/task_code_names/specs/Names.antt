-- Expressions and stores with names in place of parts. This project's own.
use Rattle.std.specs.Prelude.{◌≡◌, ◌<◌, ◌^◌, List, [], ◌∷◌}
use Rattle.halide_pipeline.specs.Pixel.{Reads}
use Rattle.loop_ir.specs.declared.expressions.Counter.{Counter}
use Rattle.loop_ir.specs.declared.expressions.Expr.{Expr}
use Rattle.loop_ir.specs.declared.statements.Store.{Store}
use Rattle.loop_ir.specs.Counters.{Values}
use Rattle.loop_ir.specs.Expressions.{value, loads}
use Rattle.task_code_names.specs.declared.names.Named.{Named}
use Rattle.task_code_names.specs.Alike.{IsAlike, IsAlikeStore}

-- a variable has the value of an expression, which loads nothing and is a word
pub record HasValue (counter : Counter) (e : Expr) (values : Values) : Type 0 where
  pub value_is : (reads : Reads) → value reads values e ≡ values counter
  pub none : (reads : Reads) → loads reads values e ≡ []
  pub small : values counter < 2 ^ 32

-- so it is with each name
abbrev pub AreNames : List Named → Values → Type 0
AreNames [] values = Unit {0}
AreNames (own ∷ others) values = HasValue own.counter own.e values × AreNames others values

-- a variable is an expression's name
abbrev pub IsNameOf : List Named → Expr → Counter → Type 0
IsNameOf names e counter = (values : Values) → AreNames names values → HasValue counter e values

abbrev pub IsNamedExpr : List Named → Expr → Expr → Type 0
IsNamedExpr names expression new_expression = IsAlike (AreNames names) expression new_expression

abbrev pub IsNamedStore : List Named → Store → Store → Type 0
IsNamedStore names store new_store = IsAlikeStore (AreNames names) store new_store
