-- Addresses of points whose indexes may be computed, whatever their instructions are. This project's own.
use Rattle.std.specs.Prelude.{◌≡◌, ◌≢◌, ◌⊎◌, ◌<◌, ◌≤◌, ℕ, ◌+◌, ◌*◌, ◌%◌, ◌^◌, true, List, length}
use Rattle.rv_insn.specs.declared.instructions.Insn.{Insn}
use Rattle.loop_ir.specs.declared.expressions.Linear.{Linear}
use Rattle.loop_ir.specs.Counters.{Values}
use Rattle.loop_ir.specs.Expressions.{linear_value}
use Rattle.multi_hart_laws.specs.Alone.{World}
use Rattle.multi_hart_laws.specs.Paths.{Line}
use Rattle.task_code_scalar.specs.declared.layouts.BufferLayout.{BufferLayout}
use Rattle.task_code_scalar.specs.Code.{address, pixel_bytes}
use Rattle.task_code_scalar.specs.Words.{Emits}
use Rattle.task_code_registers.specs.declared.scopes.Held.{Held}
use Rattle.task_code_registers.specs.Emitting.{Fits}
use Rattle.task_code_registers.specs.Registers.{IsSource}
use Rattle.task_code_registers.specs.Scopes.{Knows, AreHolders, IsKept, have_registers}
use Rattle.task_code_values.specs.declared.points.PointIndex.{PointIndex}
use Rattle.task_code_values.specs.declared.points.PointIndex.TheVariants as indexes
use Rattle.task_code_values.specs.Making.{IsBelow}
use Rattle.task_code_values.specs.Operands.{IsIndex, index_words}
use Rattle.task_code_values.specs.Points.{HaveIndex}

-- ---- the two parts of an index: what is in a register, and what is a sum

abbrev pub register_part : PointIndex → (ℕ → ℕ) → ℕ
register_part (indexes.Sum own) f = 0
register_part (indexes.Register s) f = f s

abbrev pub sum_part : PointIndex → Values → ℕ
sum_part (indexes.Sum own) values = linear_value values own
sum_part (indexes.Register s) values = 0

abbrev pub HasSource : PointIndex → Type 0
HasSource (indexes.Sum own) = Unit {0}
HasSource (indexes.Register s) = IsSource s

-- of what is made of the first part
abbrev pub column_words : PointIndex → ℕ
column_words (indexes.Sum own) = 2
column_words (indexes.Register s) = 1

-- a sum is an index's second part
pub record IsSumPart (index : PointIndex) (sum : Linear) : Type 0 where
  pub value_is : (values : Values) → linear_value values sum ≡ sum_part index values
  pub few : 4 * length sum.terms ≤ index_words index
  pub few_columns : column_words index + 4 * length sum.terms ≤ index_words index + 1
  pub have : (scope : List Held) → HaveIndex scope index → have_registers scope sum.terms ≡ true

-- ---- bytes

abbrev pub row_bytes : BufferLayout → ℕ
row_bytes layout = (pixel_bytes layout.pixels * layout.width) % 2 ^ 32

-- a register's bytes, and those of as many rows as another one holds where an index is one
abbrev pub with_rows : BufferLayout → PointIndex → ℕ → (ℕ → ℕ) → ℕ
with_rows layout (indexes.Sum own) r f = f r
with_rows layout (indexes.Register t) r f = (f r + f t * row_bytes layout) % 2 ^ 32

-- ---- addresses

-- it is in another register than r, or in one of the scope
abbrev pub StandsBeside : List Held → ℕ → PointIndex → Type 0
StandsBeside scope r (indexes.Sum own) = Unit {0}
StandsBeside scope r (indexes.Register t) = IsSource t × ((t ≢ r) ⊎ IsKept scope t)

-- straight code after which register r and an offset make v; it keeps the registers below r
pub record Reached (world : World) (memory : List ℕ) (insns : List Insn) (f : ℕ → ℕ) (r offset v : ℕ) : Type 0 where
  pub after : ℕ → ℕ
  pub line : Line world insns f memory after memory
  pub value : (after r + offset) % 2 ^ 32 ≡ v
  pub keeps : (q : ℕ) → IsBelow r q → after q ≡ f q

-- Appended code does so for what lies this many bytes after the point of two sums as r says.
pub record ReachesBehind (old new : List ℕ) (scope : List Held) (layout : BufferLayout) (x y : Linear) (r offset : ℕ) : Type 0 where
  pub insns : List Insn
  pub emits : Emits old new insns
  pub short : length insns ≤ 7 + 4 * (length x.terms + length y.terms)
  pub fits : Fits offset
  pub small : offset < 2 ^ 32
  pub does : (world : World) (memory : List ℕ) (values : Values) (f : ℕ → ℕ) (a : ℕ) → length memory ≡ world.size → AreHolders scope
      → Knows world.hart scope values f → (f r + address layout world.hart (linear_value values x) (linear_value values y)) % 2 ^ 32 ≡ a
      → Reached world memory insns f r offset a

-- And for the point of two indexes.
pub record ReachesPoint (old new : List ℕ) (scope : List Held) (layout : BufferLayout) (column row : PointIndex) (r offset : ℕ) : Type 0 where
  pub insns : List Insn
  pub emits : Emits old new insns
  pub short : length insns ≤ index_words column + index_words row + 12
  pub fits : Fits offset
  pub small : offset < 2 ^ 32
  pub does : (world : World) (memory : List ℕ) (values : Values) (f : ℕ → ℕ) (x y : ℕ) → length memory ≡ world.size → AreHolders scope
      → Knows world.hart scope values f → IsIndex values f column x → IsIndex values f row y → address layout world.hart x y < 2 ^ 32
      → Reached world memory insns f r offset (address layout world.hart x y)
