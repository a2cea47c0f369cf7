-- Expressions without clamps that cut nothing off. This project's own.
use Rattle.std.specs.Prelude.{◌≡◌, ◌<◌, ◌^◌, true, List}
use Rattle.std.specs.List.{AllByRecursion}
use Rattle.halide_pipeline.specs.Pixel.{Reads}
use Rattle.halide_pipeline.specs.Points.{Point}
use Rattle.loop_ir.specs.declared.expressions.Expr.{Expr}
use Rattle.loop_ir.specs.declared.statements.Store.{Store}
use Rattle.loop_ir.specs.Counters.{Values}
use Rattle.loop_ir.specs.Expressions.{value, loads}
use Rattle.task_code_scalar.specs.declared.layouts.Places.{Places}
use Rattle.task_code_loops.specs.declared.bounds.Bound.{Bound}
use Rattle.task_code_loops.specs.Bounds.{AreBelow}
use Rattle.task_code_clamps.specs.declared.clamps.Ranged.{Ranged}
use Rattle.task_code_clamps.specs.Ranges.{IsByte, LiesIn}

-- pixels of sources that hold bytes are bytes at these points
abbrev pub AreBytesAt : Places → Reads → List Point → Type 0
AreBytesAt places reads points = AllByRecursion (λ (point : Point). IsByte places point.source (reads point.source point.x point.y)) points

-- An expression comes to the same as another one, and loads the same points, where loop variables are below their bounds and bytes are loaded
-- where there are bytes.
pub record IsSame (places : Places) (bounds : List Bound) (expression new_expression : Expr) : Type 0 where
  pub value_is : (reads : Reads) (values : Values) → AreBelow bounds values → AreBytesAt places reads (loads reads values expression)
      → value reads values new_expression ≡ value reads values expression
  pub loads_are : (reads : Reads) (values : Values) → AreBelow bounds values → AreBytesAt places reads (loads reads values expression)
      → loads reads values new_expression ≡ loads reads values expression

-- and lies in a range, and is a word, if so
pub record IsRanged (places : Places) (bounds : List Bound) (expression : Expr) (ranged : Ranged) : Type 0 where
  pub same : IsSame places bounds expression ranged.e
  pub lies : (reads : Reads) (values : Values) → AreBelow bounds values → AreBytesAt places reads (loads reads values expression)
      → LiesIn ranged.range (value reads values expression)
  pub word : (reads : Reads) (values : Values) → AreBelow bounds values → AreBytesAt places reads (loads reads values expression)
      → ranged.is_word ≡ true → value reads values expression < 2 ^ 32

-- a store writes the same value at the same point there
pub record IsSameStore (places : Places) (bounds : List Bound) (store new_store : Store) : Type 0 where
  pub func_is : new_store.func ≡ store.func
  pub column : IsSame places bounds store.x new_store.x
  pub row : IsSame places bounds store.y new_store.y
  pub pixel : IsSame places bounds store.value new_store.value
