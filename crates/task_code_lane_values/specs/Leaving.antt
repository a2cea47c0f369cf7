-- What appended code over lanes leaves: a value for each iteration of a vectorized loop, in a group of vector registers. This project's own.
use Rattle.std.specs.Prelude.{◌≡◌, ◌⊎◌, ◌<◌, ◌≤◌, ℕ, ◌+◌, ◌*◌, ◌%◌, ◌^◌, List, length}
use Rattle.std.specs.List.{AllByRecursion}
use Rattle.rv_insn.specs.declared.instructions.Insn.{Insn}
use Rattle.halide_pipeline.specs.Pixel.{Reads}
use Rattle.loop_ir.specs.declared.expressions.Expr.{Expr}
use Rattle.loop_ir.specs.Counters.{Values, with}
use Rattle.loop_ir.specs.Expressions.{value, loads}
use Rattle.multi_hart_laws.specs.Alone.{World}
use Rattle.multi_hart_laws.specs.Paths.{Line, lane, vl_number, vtype_number}
use Rattle.task_code_scalar.specs.declared.layouts.BufferLayout.{BufferLayout}
use Rattle.task_code_scalar.specs.declared.layouts.Places.{Places}
use Rattle.task_code_scalar.specs.Code.{pixel_bytes}
use Rattle.task_code_scalar.specs.Evaluation.{ArePlaces, Loads}
use Rattle.task_code_scalar.specs.Words.{Emits}
use Rattle.task_code_registers.specs.declared.scopes.Held.{Held}
use Rattle.task_code_registers.specs.Registers.{scratch, address_register, first_value}
use Rattle.task_code_registers.specs.Scopes.{Knows, AreHolders}
use Rattle.task_code_lanes.specs.declared.groups.LaneGroup.{LaneGroup}
use Rattle.task_code_lanes.specs.Groups.{registers, slot}
use Rattle.task_code_lanes.specs.Leaving.{HasLanes}
use Rattle.task_code_lane_values.specs.declared.vectorized.VectorLanes.{VectorLanes}

-- What stays while values are made in group k: scalar registers below those of values, but for the scratch registers and the one where
-- addresses are made; how many lanes there are; and the groups below.
abbrev pub IsUnder : LaneGroup → ℕ → ℕ → Type 0
IsUnder group k q =
    ((q < first_value) × ((q < scratch) ⊎ (address_register < q)))
    ⊎ (((q ≡ vl_number) ⊎ (q ≡ vtype_number)) ⊎ ((lane (slot group 0) 0 ≤ q) × (q < lane (slot group k) 0)))

-- straight code that leaves these words in group k, one for each of this many iterations, and memory as it was
pub record LeavesLanes (world : World) (memory : List ℕ) (insns : List Insn) (f : ℕ → ℕ) (group : LaneGroup) (k count : ℕ) (v : ℕ → ℕ) : Type 0 where
  pub after : ℕ → ℕ
  pub line : Line world insns f memory after memory
  pub value : (i : ℕ) → i < count → after (lane (slot group k) i) ≡ v i
  pub small : (i : ℕ) → i < count → v i < 2 ^ 32
  pub keeps : (q : ℕ) → IsUnder group k q → after q ≡ f q

-- Appended code leaves an expression's values in this many iterations as lanes are configured for, from what registers
-- hold in the first of them, wherever memory holds what each iteration loads.
pub record MakesLanes (old new : List ℕ) (places : Places) (scope : List Held) (lanes : VectorLanes) (k : ℕ) (e : Expr) : Type 0 where
  pub insns : List Insn
  pub emits : Emits old new insns
  pub does : (world : World) (memory : List ℕ) (values : Values) (reads : Reads) (count : ℕ) (f : ℕ → ℕ) → length memory ≡ world.size → ArePlaces places
      → AreHolders scope → Knows world.hart scope (with lanes.counter 0 values) f → HasLanes lanes.group count f → 1 ≤ count → count ≤ 4 * registers lanes.group
      → ((i : ℕ) → i < count → AllByRecursion (Loads world places memory reads) (loads reads (with lanes.counter i values) e))
      → LeavesLanes world memory insns f lanes.group k count (λ i. value reads (with lanes.counter i values) e)

-- how many bytes after a buffer's first pixel the point at x and y lies, modulo 2 ^ 32
abbrev pub distance : BufferLayout → ℕ → ℕ → ℕ
distance layout x y = ((x + (y * layout.width) % 2 ^ 32) % 2 ^ 32 * pixel_bytes layout.pixels) % 2 ^ 32

-- Appended code leaves these distances of points at two expressions, as it leaves the values of an expression.
pub record MakesDistances (old new : List ℕ) (places : Places) (scope : List Held) (lanes : VectorLanes) (k : ℕ) (layout : BufferLayout) (x y : Expr) : Type 0 where
  pub insns : List Insn
  pub emits : Emits old new insns
  pub does : (world : World) (memory : List ℕ) (values : Values) (reads : Reads) (count : ℕ) (f : ℕ → ℕ) → length memory ≡ world.size → ArePlaces places
      → AreHolders scope → Knows world.hart scope (with lanes.counter 0 values) f → HasLanes lanes.group count f → 1 ≤ count → count ≤ 4 * registers lanes.group
      → ((i : ℕ) → i < count → AllByRecursion (Loads world places memory reads) (loads reads (with lanes.counter i values) x))
      → ((i : ℕ) → i < count → AllByRecursion (Loads world places memory reads) (loads reads (with lanes.counter i values) y))
      → LeavesLanes world memory insns f lanes.group k count
      (λ i. distance layout (value reads (with lanes.counter i values) x) (value reads (with lanes.counter i values) y))
