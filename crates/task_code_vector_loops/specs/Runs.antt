-- What appended code does of a vectorized loop, whatever its instructions are: all iterations at once. This project's own.
use Rattle.std.specs.Prelude.{◌≡◌, ◌<◌, ◌≤◌, ℕ, ◌*◌, ◌/◌, min, true, List, [], ◌∷◌, length, None}
use Rattle.rv_insn.specs.declared.instructions.Insn.{Insn}
use Rattle.halide_pipeline.specs.Pixel.{Planes, Reads}
use Rattle.halide_pipeline.specs.Points.{Point}
use Rattle.halide_pipeline.specs.Words as word
use Rattle.std.specs.Prelude.{Bool}
use Rattle.loop_ir.specs.declared.expressions.Counter.{Counter}
use Rattle.loop_ir.specs.declared.statements.LoopKind.TheVariants.{Vectorized}
use Rattle.loop_ir.specs.declared.statements.Stmt.{Stmt}
use Rattle.loop_ir.specs.declared.statements.Stmt.TheVariants as statements
use Rattle.loop_ir.specs.declared.statements.Store.{Store}
use Rattle.loop_ir.specs.AtOnce.{effect}
use Rattle.loop_ir.specs.Buffers.{Points}
use Rattle.loop_ir.specs.Counters.{Values, with}
use Rattle.loop_ir.specs.Expressions.{linear_value}
use Rattle.loop_ir.specs.Running.{run}
use Rattle.loop_ir.specs.Soundness.{is_sound}
use Rattle.task_code_scalar.specs.declared.layouts.Places.{Places}
use Rattle.task_code_scalar.specs.Doing.{Setting, IsSetting, HoldsFuncs, stored_points}
use Rattle.task_code_scalar.specs.Words.{Emits}
use Rattle.task_code_registers.specs.declared.scopes.Held.{Held}
use Rattle.task_code_registers.specs.Doing.{Did}
use Rattle.task_code_registers.specs.Scopes.{Knows, AreHolders, IsKept}
use Rattle.task_code_lanes.specs.declared.groups.LaneGroup.{LaneGroup}
use Rattle.task_code_lanes.specs.Groups.{registers}
pub use Rattle.task_code_lane_values.specs.declared.vectorized.VectorLanes.{VectorLanes}
use Rattle.task_code_vector_loops.specs.declared.left.Left.{Left}
use Rattle.task_code_vector_loops.specs.AtOnce.{MayRun}

-- how many lanes groups have
abbrev pub group_lanes : LaneGroup → ℕ
group_lanes group = 4 * registers group

-- how many iterations there are lanes for
abbrev pub all_lanes : VectorLanes → ℕ
all_lanes lanes = group_lanes lanes.group

-- how many iterations a sum leaves, where the first one passes: as many as strides go into it there
abbrev pub left_by : Counter → Left → Values → ℕ
left_by counter left_store values = linear_value (with counter 0 values) left_store.sum / left_store.stride

-- the least that one of some leaves, as numbers with a sign
abbrev pub least_left : Counter → Left → List Left → Values → ℕ
least_left counter first [] values = left_by counter first values
least_left counter first (next ∷ others) values = word.minimum (least_left counter next others values) (left_by counter first values)

-- that many, but no more than there are lanes for; this many where there is no sum
abbrev pub left_lanes : VectorLanes → List Left → Values → ℕ
left_lanes vector_lanes [] values = all_lanes vector_lanes
left_lanes vector_lanes (first ∷ others) values = min (least_left vector_lanes.counter first others values)
    (all_lanes vector_lanes)

-- the vectorized loop of as many iterations as there are lanes for
abbrev pub run_of : VectorLanes → Stmt → Stmt
run_of lanes body = statements.For lanes.counter (all_lanes lanes) Vectorized body

-- In each of the first this many iterations, at least one, a body stores what a store stores where names have values
-- too, and is sound only if that is. In the others it stores nothing.
pub record StoresAs (lanes : VectorLanes) (body : Stmt) (store : Store) (values named : Values) (count : ℕ) : Type 0
  where
    pub some : 1 ≤ count
    pub few : count ≤ all_lanes lanes
    pub stores : (reads : Reads) (i : ℕ) → i < count
        → effect reads body (with lanes.counter i values) ≡ effect reads (statements.Store store)
        (with lanes.counter i named)
    pub sound : (reads : Reads) (written : Points) (loaded : Point → Bool) (i : ℕ) → i < count
        → is_sound reads written loaded body (with lanes.counter i values) ≡ true
        → is_sound reads written loaded (statements.Store store) (with lanes.counter i named) ≡ true
    pub none : (reads : Reads) (i : ℕ) → count ≤ i → i < all_lanes lanes → effect reads body (with lanes.counter i values) ≡ None

-- Appended code does a vectorized loop whose body stores as a store does in this many iterations, wherever registers hold the scope's forms in the first
-- of them, and keeps these registers. The code is the same in all settings, and there are settings in which each turn that writes a point of the Func has
-- to write a whole run (`at_once`): no code that stores point by point does this.
pub record EmitsRun (old new : List ℕ) (places : Places) (scope : List Held) (lanes : VectorLanes) (count : Values → ℕ) (store : Store) : Type 0 where
  pub insns : List Insn
  pub emits : Emits old new insns
  pub does : (setting : Setting) → IsSetting setting → setting.places ≡ places → (values named : Values) (body : Stmt) → AreHolders scope
      → StoresAs lanes body store values named (count named) → MayRun setting (run_of lanes body) values
      → (f : ℕ → ℕ) (memory : List ℕ) (funcs : Planes) → HoldsFuncs setting memory funcs → Knows setting.world.hart scope (with lanes.counter 0 named) f
      → Did setting insns (length insns) f memory (IsKept scope) (run setting.points setting.inputs (run_of lanes body) values funcs)
      (stored_points setting (run_of lanes body) values funcs)
