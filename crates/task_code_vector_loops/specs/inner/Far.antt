-- How far the points of a run's lanes lie after a buffer's first pixel. This project's own.
use Rattle.std.specs.Prelude.{◌≡◌, ◌≤◌, ℕ, List, ◌++◌, length}
use Rattle.rv_insn.specs.declared.instructions.Insn.{Insn}
use Rattle.halide_pipeline.specs.Pixel.{Reads}
use Rattle.halide_pipeline.specs.Words as word
use Rattle.loop_ir.specs.declared.expressions.Expr.{Expr}
use Rattle.loop_ir.specs.Counters.{Values, with}
use Rattle.loop_ir.specs.Expressions.{value, loads}
use Rattle.multi_hart_laws.specs.Alone.{World}
use Rattle.task_code_scalar.specs.declared.layouts.BufferLayout.{BufferLayout}
use Rattle.task_code_scalar.specs.declared.layouts.Places.{Places}
use Rattle.task_code_scalar.specs.Evaluation.{ArePlaces}
use Rattle.task_code_scalar.specs.Words.{Emits}
use Rattle.task_code_registers.specs.declared.scopes.Held.{Held}
use Rattle.task_code_registers.specs.Scopes.{AreHolders, Knows}
use Rattle.task_code_lanes.specs.Leaving.{HasLanes}
use Rattle.task_code_lane_values.specs.declared.vectorized.VectorLanes.{VectorLanes}
use Rattle.task_code_lane_values.specs.Leaving.{distance}
use Rattle.task_code_vector_loops.specs.inner.Parting.{LeavesRun, LoadsEach}
use Rattle.task_code_vector_loops.specs.Runs.{all_lanes}

-- ---- as expressions

-- an expression is another one times a number
pub record IsProduct (e : Expr) (number : ℕ) (expression : Expr) : Type 0 where
  pub value_is : (reads : Reads) (values : Values) → value reads values expression ≡ word.multiply (value reads values e) number
  pub loads_are : (reads : Reads) (values : Values) → loads reads values expression ≡ loads reads values e

-- it is how many bytes the point at two others lies after a buffer's first pixel, modulo 2 ^ 32, and loads what they load
pub record IsDistance (layout : BufferLayout) (x y expression : Expr) : Type 0 where
  pub value_is : (reads : Reads) (values : Values) → value reads values expression ≡ distance layout (value reads values x) (value reads values y)
  pub loads_are : (reads : Reads) (values : Values) → loads reads values expression ≡ loads reads values x ++ loads reads values y

-- ---- in lanes

-- Where lanes are configured for this many iterations, appended code leaves in the second group how far their points
-- lie, and keeps the first group. Lanes are configured so after it too.
pub record MakesFar (old new : List ℕ) (places : Places) (scope : List Held) (lanes : VectorLanes) (count : Values → ℕ) (layout : BufferLayout) (x y : Expr) : Type 0 where
  pub insns : List Insn
  pub emits : Emits old new insns
  pub does : (world : World) (memory : List ℕ) (values : Values) (reads : Reads) (f : ℕ → ℕ) → length memory ≡ world.size → ArePlaces places
      → AreHolders scope → Knows world.hart scope (with lanes.counter 0 values) f → HasLanes lanes.group (count values) f → 1 ≤ count values
      → count values ≤ all_lanes lanes → LoadsEach places lanes x world memory reads values (count values)
      → LoadsEach places lanes y world memory reads values (count values)
      → LeavesRun world memory insns scope f lanes.group 1 (count values)
      (λ i. distance layout (value reads (with lanes.counter i values) x) (value reads (with lanes.counter i values) y))
