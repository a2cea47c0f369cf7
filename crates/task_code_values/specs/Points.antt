-- Loads of points, whatever their instructions are. This project's own.
use Rattle.std.specs.Prelude.{◌≡◌, ◌<◌, ◌≤◌, ℕ, ◌+◌, ◌*◌, ◌%◌, ◌^◌, true, List, length}
use Rattle.rv_insn.specs.declared.instructions.Insn.{Insn}
use Rattle.memory.specs.Access.{number_in}
use Rattle.hart_core.specs.Scalar.{load_size}
use Rattle.loop_ir.specs.declared.expressions.Linear.{Linear}
use Rattle.loop_ir.specs.Counters.{Values}
use Rattle.loop_ir.specs.Expressions.{linear_value}
use Rattle.multi_hart_laws.specs.Alone.{World}
use Rattle.multi_hart_laws.specs.Paths.{Readable}
use Rattle.task_code_scalar.specs.declared.layouts.BufferLayout.{BufferLayout}
use Rattle.task_code_scalar.specs.Code.{address}
use Rattle.task_code_scalar.specs.Evaluation.{load_op}
use Rattle.task_code_scalar.specs.Words.{Emits}
use Rattle.task_code_registers.specs.declared.scopes.Held.{Held}
use Rattle.task_code_registers.specs.Scopes.{Knows, AreHolders, have_registers}
use Rattle.task_code_values.specs.declared.points.PointIndex.{PointIndex}
use Rattle.task_code_values.specs.declared.points.PointIndex.TheVariants as indexes
use Rattle.task_code_values.specs.Making.{Leaves}

-- each loop variable of an index has a register
abbrev pub HaveIndex : List Held → PointIndex → Type 0
HaveIndex scope (indexes.Sum own) = have_registers scope own.terms ≡ true
HaveIndex scope (indexes.Register s) = Unit {0}

-- memory has a pixel at an address, which may be loaded
pub record HasPixel (world : World) (layout : BufferLayout) (memory : List ℕ) (a pixel : ℕ) : Type 0 where
  pub low : a < 2 ^ 32
  pub may : Readable world (load_size (load_op layout.pixels)) a
  pub holds : number_in world.text memory (load_size (load_op layout.pixels)) a ≡ pixel
  pub is_word : pixel < 2 ^ 32

-- Appended code leaves in r what a buffer holds at a point of two sums.
pub record LoadsPoint (old new : List ℕ) (scope : List Held) (layout : BufferLayout) (x y : Linear) (r : ℕ) : Type 0 where
  pub insns : List Insn
  pub emits : Emits old new insns
  pub short : length insns ≤ 7 + 4 * (length x.terms + length y.terms)
  pub does : (world : World) (memory : List ℕ) (values : Values) (f : ℕ → ℕ) (pixel : ℕ) → length memory ≡ world.size → AreHolders scope
      → Knows world.hart scope values f → HasPixel world layout memory (address layout world.hart (linear_value values x) (linear_value values y)) pixel
      → Leaves world memory insns f r r pixel

-- So it is of what lies this many bytes after the point as r says.
pub record LoadsBehind (old new : List ℕ) (scope : List Held) (layout : BufferLayout) (x y : Linear) (r : ℕ) : Type 0 where
  pub insns : List Insn
  pub emits : Emits old new insns
  pub short : length insns ≤ 8 + 4 * (length x.terms + length y.terms)
  pub does : (world : World) (memory : List ℕ) (values : Values) (f : ℕ → ℕ) (a pixel : ℕ) → length memory ≡ world.size → AreHolders scope
      → Knows world.hart scope values f → (f r + address layout world.hart (linear_value values x) (linear_value values y)) % 2 ^ 32 ≡ a
      → HasPixel world layout memory a pixel → Leaves world memory insns f r r pixel
