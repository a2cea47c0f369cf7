-- Values of an expression of which parts stay in groups. This project's own.
use Rattle.std.specs.Prelude.{◌≡◌, ◌⊎◌, ◌<◌, ◌≤◌, not, ◌==◌, ℕ, ◌*◌, ◌^◌, List, [], ◌∷◌, ◌++◌, length}
use Rattle.std.specs.List.{AllByRecursion}
use Rattle.rv_insn.specs.declared.instructions.Insn.{Insn}
use Rattle.hart_core.specs.Scalar.{one_if}
use Rattle.halide_pipeline.specs.Pixel.{Reads}
use Rattle.halide_pipeline.specs.Points.{Point}
use Rattle.loop_ir.specs.declared.expressions.Expr.{Expr, size-Expr}
use Rattle.loop_ir.specs.Counters.{Values, with}
use Rattle.loop_ir.specs.Expressions.{value, loads}
use Rattle.multi_hart_laws.specs.Alone.{World}
use Rattle.multi_hart_laws.specs.Paths.{Line, bit, lane}
use Rattle.task_code_scalar.specs.Evaluation.{ArePlaces, Loads}
use Rattle.task_code_scalar.specs.Words.{Emits}
use Rattle.task_code_registers.specs.Scopes.{Knows, AreHolders}
use Rattle.task_code_lanes.specs.Groups.{registers, slot}
use Rattle.task_code_lanes.specs.Leaving.{HasLanes}
use Rattle.task_code_lane_values.specs.declared.kept.Kept.{Kept}
use Rattle.task_code_lane_values.specs.declared.vectorized.LaneSite.{LaneSite}
use Rattle.task_code_lane_values.specs.declared.vectorized.VectorLanes.{VectorLanes}
use Rattle.task_code_lane_values.specs.Leaving.{IsUnder, LeavesLanes}

-- some points stand among others in one piece
pub record StandAmong (all points : List Point) : Type 0 where
  pub before : List Point
  pub behind : List Point
  pub is : all ≡ before ++ (points ++ behind)

-- what an expression loads, one that has it as a part loads too
abbrev pub IsPart : Expr → Expr → Type 0
IsPart whole part = (reads : Reads) (values : Values) → StandAmong (loads reads values whole) (loads reads values part)

-- a part, which may be all of it, and a smaller one
abbrev pub IsAnyPart : Expr → Expr → Type 0
IsAnyPart whole part = IsPart whole part × (size-Expr part ≤ size-Expr whole)

abbrev pub IsSmallerPart : Expr → Expr → Type 0
IsSmallerPart whole part = IsPart whole part × (size-Expr part < size-Expr whole)

-- ---- what groups hold

-- an expression's value in each iteration
pub record HoldsValue (lanes : VectorLanes) (reads : Reads) (values : Values) (count : ℕ) (f : ℕ → ℕ) (s : ℕ) (e : Expr) : Type 0 where
  pub value_is : (i : ℕ) → i < count → f (lane (slot lanes.group s) i) ≡ value reads (with lanes.counter i values) e
  pub small : (i : ℕ) → i < count → value reads (with lanes.counter i values) e < 2 ^ 32

-- all that stays
abbrev pub HoldsKept : VectorLanes → List Kept → Reads → Values → ℕ → (ℕ → ℕ) → Type 0
HoldsKept lanes kept reads values count f = AllByRecursion (λ t. HoldsValue lanes reads values count f t.slot t.e.now)
    kept

-- in groups below another one
abbrev pub AreBelow : List Kept → ℕ → Type 0
AreBelow kept k = AllByRecursion (λ t. t.slot < k) kept

-- an expression stays in group s
abbrev pub IsKeptAt : List Kept → Expr → ℕ → Type 0
IsKeptAt [] e s = ⊥
IsKeptAt (t ∷ kept) e s = ((s ≡ t.slot) × (t.e.now ≡ e)) ⊎ IsKeptAt kept e s

-- the mask has a bit for each iteration in which a condition isn't 0
abbrev pub HoldsMask : ℕ → (ℕ → ℕ) → (ℕ → ℕ) → Type 0
HoldsMask count f v = (i : ℕ) → i < count → f (bit i) ≡ one_if (not (v i == 0))

-- ---- code

-- from what registers hold in the first iteration, wherever memory has what each iteration loads
pub record Begins (site : LaneSite) (world : World) (memory : List ℕ) (values : Values) (count : ℕ) (f : ℕ → ℕ) : Type 0 where
  pub size : length memory ≡ world.size
  pub are_places : ArePlaces site.places.now
  pub holders : AreHolders site.scope.now
  pub knows : Knows world.hart site.scope.now (with site.lanes.counter 0 values) f
  pub has : HasLanes site.lanes.group count f
  pub some : 1 ≤ count
  pub few : count ≤ 4 * registers site.lanes.group

abbrev pub MayLoad : LaneSite → World → List ℕ → Reads → Values → ℕ → Expr → Type 0
MayLoad site world memory reads values count e =
    (i : ℕ) → i < count → AllByRecursion (Loads world site.places.now memory reads) (loads reads (with site.lanes.counter i values) e)

-- straight code after which something is so of registers; those below a group stay
pub record Leads (site : LaneSite) (world : World) (memory : List ℕ) (insns : List Insn) (f : ℕ → ℕ) (k : ℕ) (is_so : (ℕ → ℕ) → Type 0) : Type 0 where
  pub after : ℕ → ℕ
  pub line : Line world insns f memory after memory
  pub keeps : (q : ℕ) → IsUnder site.lanes.group k q → after q ≡ f q
  pub so : is_so after

-- Appended code leaves an expression's values in group s, which is group k or one in which they stay.
pub record MakesOperand (old new : List ℕ) (site : LaneSite) (kept : List Kept) (k s : ℕ) (e : Expr) : Type 0 where
  pub insns : List Insn
  pub emits : Emits old new insns
  pub low : s ≤ k
  pub does : (world : World) (memory : List ℕ) (values : Values) (reads : Reads) (count : ℕ) (f : ℕ → ℕ) → Begins site world memory values count f
      → HoldsKept site.lanes kept reads values count f → MayLoad site world memory reads values count e
      → Leads site world memory insns f k (λ g. HoldsValue site.lanes reads values count g s e)

-- It leaves in the mask where a condition isn't 0.
pub record MakesMask (old new : List ℕ) (site : LaneSite) (kept : List Kept) (k : ℕ) (e : Expr) : Type 0 where
  pub insns : List Insn
  pub emits : Emits old new insns
  pub does : (world : World) (memory : List ℕ) (values : Values) (reads : Reads) (count : ℕ) (f : ℕ → ℕ) → Begins site world memory values count f
      → HoldsKept site.lanes kept reads values count f → MayLoad site world memory reads values count e
      → Leads site world memory insns f k (λ g. HoldsMask count g (λ i. value reads (with site.lanes.counter i values) e))
