-- Values in the lanes of a run, and in parts of its lanes, in smaller groups. This project's own.
use Rattle.std.specs.Prelude.{◌≡◌, ◌<◌, ◌≤◌, ℕ, ◌+◌, ◌-◌, ◌*◌, ◌^◌, true, false, List, ◌∷◌, length}
use Rattle.std.specs.List.{AllByRecursion}
use Rattle.rv_insn.specs.declared.instructions.Insn.{Insn}
use Rattle.halide_pipeline.specs.Pixel.{Reads}
use Rattle.loop_ir.specs.declared.expressions.Expr.{Expr}
use Rattle.loop_ir.specs.Counters.{Values, same_counter, with}
use Rattle.loop_ir.specs.Expressions.{value, loads}
use Rattle.multi_hart_laws.specs.Alone.{World}
use Rattle.multi_hart_laws.specs.Paths.{Line, lane}
use Rattle.task_code_scalar.specs.declared.layouts.Places.{Places}
use Rattle.task_code_scalar.specs.Evaluation.{ArePlaces, Loads}
use Rattle.task_code_scalar.specs.Words.{Emits}
use Rattle.task_code_registers.specs.declared.scopes.Held.{Held}
use Rattle.task_code_registers.specs.Holding.{mentions}
use Rattle.task_code_registers.specs.Scopes.{AreHolders, IsKept, IsLeft, Knows, are_registers}
use Rattle.task_code_loops.specs.Beginning.{variable}
use Rattle.task_code_lanes.specs.declared.groups.LaneGroup.{LaneGroup}
use Rattle.task_code_lanes.specs.Groups.{slot}
use Rattle.task_code_lanes.specs.Leaving.{HasLanes}
use Rattle.task_code_lane_values.specs.declared.vectorized.VectorLanes.{VectorLanes}
use Rattle.task_code_vector_loops.specs.declared.further.Further.{Further}
use Rattle.task_code_vector_loops.specs.declared.parts.LaneParts.{LaneParts}
use Rattle.task_code_vector_loops.specs.inner.Going.{IsFurther}
use Rattle.task_code_vector_loops.specs.Runs.{all_lanes, group_lanes, left_lanes}

-- ---- all lanes

-- Straight code that configures this many lanes and leaves these words in group k, and memory as it was. The scope's registers and the groups below stay.
pub record LeavesRun (world : World) (memory : List ℕ) (insns : List Insn) (scope : List Held) (f : ℕ → ℕ) (group : LaneGroup) (k count : ℕ) (v : ℕ → ℕ)
    : Type 0 where
  pub after : ℕ → ℕ
  pub line : Line world insns f memory after memory
  pub has : HasLanes group count after
  pub value : (i : ℕ) → i < count → after (lane (slot group k) i) ≡ v i
  pub small : (i : ℕ) → i < count → v i < 2 ^ 32
  pub keeps : (q : ℕ) → IsKept scope q → after q ≡ f q
  pub below : (q : ℕ) → lane (slot group 0) 0 ≤ q → q < lane (slot group k) 0 → after q ≡ f q

-- memory holds what each of this many iterations loads
abbrev pub LoadsEach : Places → VectorLanes → Expr → World → List ℕ → Reads → Values → ℕ → Type 0
LoadsEach places vector_lanes e world memory reads values count =
    (i : ℕ) → i < count → AllByRecursion (Loads world places memory reads)
    (loads reads (with vector_lanes.counter i values) e)

-- Appended code configures lanes for this many iterations, at least one, and leaves an expression's values in them in
-- group k, from what registers hold in the first iteration, where memory holds what is loaded.
pub record MakesRun (old new : List ℕ) (places : Places) (scope : List Held) (vector_lanes : VectorLanes) (count : Values → ℕ) (k : ℕ) (e : Expr) : Type 0 where
  pub insns : List Insn
  pub emits : Emits old new insns
  pub does : (world : World) (memory : List ℕ) (values : Values) (reads : Reads) (f : ℕ → ℕ) → length memory ≡ world.size → ArePlaces places
      → AreHolders scope → Knows world.hart scope (with vector_lanes.counter 0 values) f → 1 ≤ count values → count values ≤ all_lanes vector_lanes
      → LoadsEach places vector_lanes e world memory reads values (count values)
      → LeavesRun world memory insns scope f vector_lanes.group k (count values)
      (λ i. value reads (with vector_lanes.counter i values) e)

-- ---- parts

-- the lanes of one
abbrev pub part_lanes : LaneParts → ℕ
part_lanes lane_parts = group_lanes lane_parts.group

-- how many iterations there are
abbrev pub count_of : LaneParts → Values → ℕ
count_of lane_parts values = left_lanes lane_parts.lanes lane_parts.left.now values

-- the loop's variable, and the one whose value it is further by in a part
abbrev pub further_of : LaneParts → Further
further_of lane_parts = record { counter = lane_parts.lanes.counter; by = lane_parts.by }

-- a register that the scope leaves holds that value, and no form has one of the two variables
pub record IsReady (lane_parts : LaneParts) : Type 0 where
  pub registers : are_registers lane_parts.scope.now ≡ true
  pub free : IsLeft lane_parts.scope.now lane_parts.register
  pub inner_is : lane_parts.inner.now ≡ record { register = lane_parts.register; form = variable lane_parts.by } ∷
      lane_parts.scope.now
  pub lacks : mentions lane_parts.by lane_parts.scope.now ≡ false
  pub loop_invariant : mentions lane_parts.lanes.counter lane_parts.scope.now ≡ false
  pub apart : same_counter lane_parts.by lane_parts.lanes.counter ≡ false

-- Straight code that configures lanes for `number` iterations from `first` on, all of them among the first `count`, and leaves `first` in a register. If
-- one of the first `count` is at `from` or after it, `first` is `from`, and all of those from there on that the part has lanes for are among the
-- `number`. The scope's registers and all lanes stay.
pub record PartConfigured (world : World) (memory : List ℕ) (insns : List Insn) (lane_parts : LaneParts) (f : ℕ → ℕ) (from count : ℕ) : Type 0 where
  pub after : ℕ → ℕ
  pub line : Line world insns f memory after memory
  pub first : ℕ
  pub number : ℕ
  pub at : after lane_parts.register ≡ first
  pub has : HasLanes lane_parts.group number after
  pub some : 1 ≤ number
  pub few : number ≤ part_lanes lane_parts
  pub within : first + number ≤ count
  pub all : (i : ℕ) → from ≤ i → i < count → i < from + part_lanes lane_parts → (first ≡ from) × (i < from + number)
  pub keeps : (q : ℕ) → IsKept lane_parts.scope.now q → after q ≡ f q
  pub lanes_stay : (q : ℕ) → 34 ≤ q → after q ≡ f q

-- appended code does so, from what registers hold in the first iteration
pub record ConfiguresPart (old new : List ℕ) (lane_parts : LaneParts) (from : ℕ) : Type 0 where
  pub insns : List Insn
  pub emits : Emits old new insns
  pub does : (world : World) (memory : List ℕ) (values : Values) (f : ℕ → ℕ) → length memory ≡ world.size → AreHolders lane_parts.scope.now
      → Knows world.hart lane_parts.scope.now (with lane_parts.lanes.counter 0 values) f
      → 1 ≤ count_of lane_parts values
      → PartConfigured world memory insns lane_parts f from (count_of lane_parts values)

-- Straight code that leaves in group k and those after it words of those of the first `count` iterations that stand from one on and below another. The
-- scope's registers and the groups below stay; lanes may be configured otherwise after it.
pub record LeavesPart (world : World) (memory : List ℕ) (insns : List Insn) (lane_parts : LaneParts) (f : ℕ → ℕ) (k from upto count : ℕ) (v : ℕ → ℕ) : Type 0 where
  pub after : ℕ → ℕ
  pub line : Line world insns f memory after memory
  pub value : (i : ℕ) → from ≤ i → i < count → i < upto → after (lane (slot lane_parts.group k) (i - from)) ≡ v i
  pub small : (i : ℕ) → from ≤ i → i < count → i < upto → v i < 2 ^ 32
  pub keeps : (q : ℕ) → IsKept lane_parts.scope.now q → after q ≡ f q
  pub below : (q : ℕ) → lane (slot lane_parts.group 0) 0 ≤ q → q < lane (slot lane_parts.group k) 0 → after q ≡ f q

-- Appended code does so with the values of an expression.
pub record MakesPart (old new : List ℕ) (lane_parts : LaneParts) (k from upto : ℕ) : Type 0 where
  pub insns : List Insn
  pub emits : Emits old new insns
  pub does : (e : Expr) → IsFurther (further_of lane_parts) e lane_parts.made.now → (world : World) (memory : List ℕ) (values : Values) (reads : Reads) (f : ℕ → ℕ)
      → length memory ≡ world.size → ArePlaces lane_parts.places.now → AreHolders lane_parts.scope.now
      → Knows world.hart lane_parts.scope.now (with lane_parts.lanes.counter 0 values) f
      → 1 ≤ count_of lane_parts values
      → LoadsEach lane_parts.places.now lane_parts.lanes e world memory reads values (count_of lane_parts values)
      → LeavesPart world memory insns lane_parts f k from upto (count_of lane_parts values) (λ i. value reads (with lane_parts.lanes.counter i values) e)
