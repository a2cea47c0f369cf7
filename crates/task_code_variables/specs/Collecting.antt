-- Vectorized loops that collect their pixels. Each iteration puts a pixel and its address into the lane with its number, one after the other, and
-- one instruction after the last one stores all lanes that are configured then. An iteration that guards let pass configures the lanes up to its own; the
-- others do nothing. They are the last ones: no value of a split loop falls from an iteration to the next where guards let the next one pass.
-- This project's own.
use Rattle.std.specs.Prelude.{◌≡◌, ◌≢◌, ◌<◌, ◌≤◌, ℕ, suc, ◌+◌, ◌*◌, ◌^◌, Bool, true, false, if◌then◌else◌, List, length, Option, Some, None}
use Rattle.rv_insn.specs.declared.instructions.Insn.{Insn}
use Rattle.halide_pipeline.specs.Pixel.{Planes, reads_of}
use Rattle.loop_ir.specs.declared.expressions.Counter.{Counter}
use Rattle.loop_ir.specs.declared.statements.LoopKind.{LoopKind}
use Rattle.loop_ir.specs.declared.statements.LoopKind.TheVariants as kinds
use Rattle.loop_ir.specs.declared.statements.Stmt.{Stmt, fold-Stmt}
use Rattle.loop_ir.specs.declared.statements.Stmt.TheOpen.{Stmt-F}
use Rattle.loop_ir.specs.declared.statements.Stmt.TheOpen as parts
use Rattle.loop_ir.specs.AtOnce.{Effect, effect}
use Rattle.loop_ir.specs.Counters.{Values}
use Rattle.loop_ir.specs.Sizes.{whole_size}
use Rattle.multi_hart_laws.specs.Alone.{World}
use Rattle.multi_hart_laws.specs.Paths.{Line, lane}
use Rattle.task_code_scalar.specs.declared.layouts.Places.{Places}
use Rattle.task_code_scalar.specs.Doing.{Setting, IsSetting, SoundIn, HoldsFuncs}
use Rattle.task_code_scalar.specs.Layout.{address_of, func_point}
use Rattle.task_code_scalar.specs.Words.{Emits}
use Rattle.task_code_lanes.specs.declared.groups.LaneGroup.{LaneGroup}
use Rattle.task_code_lanes.specs.Groups.{registers, slot, group_of_lanes}
use Rattle.task_code_lanes.specs.Leaving.{HasLanes}
use Rattle.task_code_registers.specs.declared.scopes.Held.{Held}
use Rattle.task_code_registers.specs.Doing.{Did}
use Rattle.task_code_registers.specs.Registers.{address_register, second_scratch}
use Rattle.task_code_registers.specs.Scopes.{Knows, AreHolders, IsKept}
use Rattle.task_code_statements.specs.Naming.{no_points}
use Rattle.task_code_variables.specs.Renaming.{StandFor}

-- ---- which loops do

abbrev pub one_store_at : Stmt-F Bool → Bool
one_store_at (parts.Store store) = true
one_store_at (parts.Sequence first second) = false
one_store_at (parts.For counter count kind body) = false
one_store_at (parts.Bind counter whole extent body) = body

-- a statement is one store, under the values of split loops
unfoldable pub is_one_store : Stmt → Bool
is_one_store statement = fold-Stmt Bool one_store_at statement

-- the groups in which they do
abbrev pub group_collected : ℕ → LoopKind → Stmt → Option LaneGroup
group_collected count kinds.Serial body = None
group_collected count kinds.Unrolled body = None
group_collected count kinds.Vectorized body = if is_one_store body then group_of_lanes count else None

-- ---- lanes

-- Numbers after the scalar registers, of lanes and their configuration, are the same.
abbrev pub SameLanes : (ℕ → ℕ) → (ℕ → ℕ) → Type 0
SameLanes f g = (q : ℕ) → 32 ≤ q → g q ≡ f q

-- what iteration i leaves in the lanes: as many are configured as iterations were made, its own hold a pixel and an address, and those of earlier
-- iterations stay
pub record Marks (group : LaneGroup) (i pixel address : ℕ) (f after : ℕ → ℕ) : Type 0 where
  pub has : HasLanes group (suc i) after
  pub pixel_is : after (lane (slot group 0) i) ≡ pixel
  pub address_is : after (lane (slot group 1) i) ≡ address
  pub pixels_stay : (k : ℕ) → k < i → after (lane (slot group 0) k) ≡ f (lane (slot group 0) k)
  pub addresses_stay : (k : ℕ) → k < i → after (lane (slot group 1) k) ≡ f (lane (slot group 1) k)

-- straight code that does so
pub record PutIn (world : World) (memory : List ℕ) (insns : List Insn) (group : LaneGroup) (i pixel address : ℕ) (f : ℕ → ℕ) : Type 0 where
  pub after : ℕ → ℕ
  pub line : Line world insns f memory after memory
  pub marks : Marks group i pixel address f after
  pub keeps : (q : ℕ) → q < 32 → q ≢ second_scratch → after q ≡ f q

-- at most six appended instructions do so with the pixel in register s, of the iteration whose number register r holds
pub record PutsIntoLane (old new : List ℕ) (group : LaneGroup) (r s : ℕ) : Type 0 where
  pub insns : List Insn
  pub emits : Emits old new insns
  pub short : length insns ≤ 6
  pub does : (world : World) (memory : List ℕ) (f : ℕ → ℕ) (i pixel address : ℕ) → length memory ≡ world.size → r ≢ second_scratch → s ≢ second_scratch
      → i < 4 * registers group → f r ≡ i → f s ≡ pixel → f address_register ≡ address → pixel < 2 ^ 32 → address < 2 ^ 32
      → PutIn world memory insns group i pixel address f

-- ---- an iteration

-- where a pixel lies
abbrev pub address_in : Setting → Effect → ℕ
address_in setting stored = address_of setting.world setting.places (func_point stored.func stored.x stored.y)

-- an iteration's pixel may be stored, and is in the lanes with its number
pub record CollectsOne (setting : Setting) (group : LaneGroup) (i : ℕ) (stored : Effect) (f after : ℕ
    → ℕ) : Type 0 where
  pub written : setting.written stored.func stored.x stored.y ≡ true
  pub small : stored.pixel < 2 ^ 32
  pub marks : Marks group i stored.pixel (address_in setting stored) f after

-- what becomes of lanes: those of an iteration that guards forbid stay
abbrev pub CollectsIf : Setting → LaneGroup → ℕ → Option Effect → (ℕ → ℕ) → (ℕ → ℕ) → Type 0
CollectsIf setting group i None f after = SameLanes f after
CollectsIf setting group i (Some stored) f after = CollectsOne setting group i stored f after

-- code that does so, and writes nothing
pub record Collected (setting : Setting) (insns : List Insn) (n : ℕ) (f : ℕ → ℕ) (memory : List ℕ) (scope : List Held) (funcs : Planes) (group : LaneGroup) (i : ℕ)
    (stored : Option Effect) : Type 0 where
  pub did : Did setting insns n f memory (IsKept scope) funcs no_points
  pub collects : CollectsIf setting group i stored f did.after

-- Appended code collects the pixel of an iteration's statement, where register r holds the iteration's number, registers hold the scope's forms, and
-- numbered variables stand for those of the loops around. It has at most six words more than the statement asks for.
pub record Collects (old new : List ℕ) (places : Places) (scope : List Held) (around : List Counter) (group : LaneGroup) (r : ℕ) (statement : Stmt) : Type 0 where
  pub insns : List Insn
  pub emits : Emits old new insns
  pub short : length insns ≤ whole_size statement + 6
  pub turns : Values → ℕ
  pub does : (setting : Setting) → IsSetting setting → setting.places ≡ places → (values numbers : Values) → StandFor around values numbers → AreHolders scope
      → SoundIn setting statement values → IsKept scope r → (i : ℕ) → i < 4 * registers group
      → (f : ℕ → ℕ) (memory : List ℕ) (funcs : Planes) → HoldsFuncs setting memory funcs → Knows setting.world.hart scope numbers f → f r ≡ i
      → Collected setting insns (turns numbers) f memory scope funcs group i (effect (reads_of setting.inputs funcs) statement values)
