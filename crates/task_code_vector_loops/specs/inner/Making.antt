-- What parts of a run's code do. This project's own.
use Rattle.std.specs.Prelude.{◌≡◌, ◌≢◌, ◌≤◌, ℕ, List, length}
use Rattle.rv_insn.specs.declared.instructions.Insn.{Insn}
use Rattle.loop_ir.specs.declared.expressions.Counter.{Counter}
use Rattle.loop_ir.specs.Counters.{Values, with}
use Rattle.multi_hart_laws.specs.Alone.{World}
use Rattle.multi_hart_laws.specs.Paths.{Line}
use Rattle.task_code_scalar.specs.Words.{Emits}
use Rattle.task_code_registers.specs.declared.scopes.AffineForm.{AffineForm}
use Rattle.task_code_registers.specs.declared.scopes.Held.{Held}
use Rattle.task_code_registers.specs.Registers.{scratch, second_scratch, address_register, first_value, IsSource}
use Rattle.task_code_registers.specs.Scopes.{Knows, AreHolders, IsKept, form_value}
use Rattle.task_code_lanes.specs.declared.groups.LaneGroup.{LaneGroup}
use Rattle.task_code_lanes.specs.Leaving.{HasLanes}
use Rattle.task_code_lane_values.specs.declared.vectorized.VectorLanes.{VectorLanes}
use Rattle.task_code_vector_loops.specs.declared.left.Left.{Left}
use Rattle.task_code_vector_loops.specs.Runs.{least_left, left_by}

-- ---- how many lanes

-- straight code that configures this many lanes and keeps what they hold; registers that the scope doesn't keep may change
pub record Configured (world : World) (memory : List ℕ) (insns : List Insn) (scope : List Held) (f : ℕ → ℕ) (group : LaneGroup) (count : ℕ) : Type 0 where
  pub after : ℕ → ℕ
  pub line : Line world insns f memory after memory
  pub has : HasLanes group count after
  pub keeps : (q : ℕ) → IsKept scope q → after q ≡ f q
  pub lanes_stay : (q : ℕ) → 34 ≤ q → after q ≡ f q

-- appended code does so, from what registers hold in the first iteration
pub record Configures (old new : List ℕ) (scope : List Held) (vector_lanes : VectorLanes) (count : Values
    → ℕ) : Type 0 where
  pub insns : List Insn
  pub emits : Emits old new insns
  pub does : (world : World) (memory : List ℕ) (values : Values) (f : ℕ → ℕ) → length memory ≡ world.size → AreHolders scope
      → Knows world.hart scope (with vector_lanes.counter 0 values) f → Configured world memory insns scope f vector_lanes.group (count values)

-- ---- where lanes begin

-- straight code after which a register holds v, an address or a number; that of addresses and the scratch registers may change
pub record Points (world : World) (memory : List ℕ) (insns : List Insn) (f : ℕ → ℕ) (b v : ℕ) : Type 0 where
  pub after : ℕ → ℕ
  pub line : Line world insns f memory after memory
  pub value : after b ≡ v
  pub others : (q : ℕ) → q ≢ address_register → q ≢ scratch → q ≢ second_scratch → after q ≡ f q

-- appended code makes a register other than x0 point where a form is in the first iteration
pub record MakesPointer (old new : List ℕ) (scope : List Held) (counter : Counter) (b : ℕ) (form : AffineForm) : Type 0 where
  pub insns : List Insn
  pub emits : Emits old new insns
  pub some : 1 ≤ b
  pub source : IsSource b
  pub does : (world : World) (memory : List ℕ) (hart : ℕ) (values : Values) (f : ℕ → ℕ) → length memory ≡ world.size → AreHolders scope
      → Knows hart scope (with counter 0 values) f → Points world memory insns f b (form_value hart (with counter 0 values) form)

-- ---- how many iterations sums leave

-- appended code puts into a register other than x0 how many iterations a sum leaves
pub record MakesLeft (old new : List ℕ) (scope : List Held) (counter : Counter) (b : ℕ) (left : Left) : Type 0 where
  pub insns : List Insn
  pub emits : Emits old new insns
  pub some : 1 ≤ b
  pub source : IsSource b
  pub does : (world : World) (memory : List ℕ) (values : Values) (f : ℕ → ℕ) → length memory ≡ world.size → AreHolders scope
      → Knows world.hart scope (with counter 0 values) f → Points world memory insns f b (left_by counter left values)

-- straight code that leaves v where values are made; that register, the scratch registers and that of addresses may change
pub record Least (world : World) (memory : List ℕ) (insns : List Insn) (f : ℕ → ℕ) (v : ℕ) : Type 0 where
  pub after : ℕ → ℕ
  pub line : Line world insns f memory after memory
  pub value : after first_value ≡ v
  pub others : (q : ℕ) → q ≢ first_value → q ≢ address_register → q ≢ scratch → q ≢ second_scratch → after q ≡ f q

-- appended code puts there the least number of iterations that one of some sums leaves
pub record MakesLeast (old new : List ℕ) (scope : List Held) (counter : Counter) (first : Left) (others : List Left) : Type 0 where
  pub insns : List Insn
  pub emits : Emits old new insns
  pub does : (world : World) (memory : List ℕ) (values : Values) (f : ℕ → ℕ) → length memory ≡ world.size → AreHolders scope
      → Knows world.hart scope (with counter 0 values) f → Least world memory insns f (least_left counter first others values)
