-- The harts of an image share the tasks of a pipeline's phases, and leave the pixels of all Funcs at root.
-- This project's own.
use Rattle.std.specs.Prelude.{◌≡◌, ◌<◌, ◌≤◌, ◌⊎◌, ℕ, suc, ◌+◌, true, List, length, slice_get, Some, Ok}
use Rattle.std.specs.List.{AllByRecursion}
use Rattle.memory.specs.Access.{text_start, data_start, byte_at, AreBytes, word_at}
use Rattle.halide_pipeline.specs.declared.definitions.Func.{Func}
use Rattle.halide_pipeline.specs.declared.expressions.Source.TheVariants as sources
use Rattle.halide_pipeline.specs.Pipelines.{Pipeline}
use Rattle.halide_pipeline.specs.WellFormed.{IsWellFormed}
use Rattle.halide_pipeline.specs.Pixel.{Planes, reads_of, pixels}
use Rattle.schedule.specs.declared.plans.FuncPlan.{FuncPlan}
use Rattle.schedule.specs.declared.schedules.Schedule.{Schedule}
use Rattle.schedule.specs.Accepted.{IsAccepted}
use Rattle.bounds_ranges.specs.Laws.{AnswerWords}
use Rattle.bounds.specs.declared.boxes.SourceBox.{SourceBox}
use Rattle.bounds.specs.declared.verdict.Boxes.{Boxes}
use Rattle.bounds.specs.Verdict.{inferred}
use Rattle.bounds.specs.Extents.{extents_of}
use Rattle.loop_ir.specs.declared.statements.Phase.{Phase}
use Rattle.lowering.specs.Lowered.{AreLowered}
use Rattle.lowering.specs.Planes.{held}
use Rattle.bounds.specs.Stages.{IsAtRoot, StagePosition, stages, iterations, writes}
use Rattle.multi_hart_laws.specs.Uses.{Fixed, Owned}
use Rattle.multi_hart_laws.specs.Paths.{Stand}
use Rattle.vector_codegen.specs.PhaseCode.{Part, program}
pub use Rattle.vector_codegen.specs.Sharing.{Matter, IsShared, part_at, phase}
use Rattle.vector_codegen.specs.Programs.{ArePartsOf, HasFewTasks}
use Rattle.vector_codegen_laws.specs.Points.{RootFunc, RootPoint, part, address_at}
use Rattle.vector_codegen_laws.specs.Settings.{places, size}
use Rattle.vector_codegen_laws.specs.Uses.{byte_in}
use Rattle.vector_codegen_laws.specs.Runs.{writes_runs, IsOneRun}

module _ (pipeline : Pipeline) (schedule : Schedule) (boxes : Boxes) where
  -- The data begin so: the inputs' pixels, and zeros.
  pub record OpensWith (text memory : List ℕ) (inputs : Planes) : Type 0 where
    pub whole : length memory ≡ size pipeline schedule boxes.funcs
    pub bytes : AreBytes memory
    pub holds : (address : ℕ) → data_start ≤ address
        → byte_at text memory address ≡ byte_in pipeline.inputs boxes.funcs inputs (λ place x y. 0) (part pipeline schedule boxes.funcs address)

  -- Memory holds the pixels of each Func at root, counted from the corner of its box.
  abbrev pub HoldsPixels : List ℕ → List ℕ → Planes → Type 0
  HoldsPixels text memory inputs = (func x y : ℕ) → RootPoint pipeline schedule boxes.funcs func x y
      → word_at text memory (address_at pipeline schedule boxes.funcs 0 (sources.Func func) x y)
      ≡ held boxes.funcs (pixels pipeline.funcs inputs (length pipeline.funcs)) func x y

  -- A task of a phase owns the byte, and the phase computes a stage of the Func.
  pub record IsOwnedIn (matter : ℕ → Matter) (k func address : ℕ) : Type 0 where
    pub task : ℕ
    pub owned : (matter k).uses address ≡ Owned task
    pub stage : StagePosition
    pub stage_is : slice_get (stages pipeline schedule boxes) k ≡ Some stage
    pub func_is : stage.func ≡ func

  -- This many harts share their work. Where the tasks of the last phase left what they own, and all else is as that phase found it, the pixels
  -- stand.
  pub record AreShared (harts : ℕ) (parts : List Part) (last : ℕ) (text memory : List ℕ) (inputs : Planes) : Type 0 where
    pub matter : ℕ → Matter
    pub is_shared : IsShared text (size pipeline schedule boxes.funcs) harts parts matter last memory
    -- the phases compute the stages, with a task for each iteration
    pub stages_are : length (stages pipeline schedule boxes) ≡ suc last
    pub tasks_are : (k : ℕ) (stage : StagePosition) → slice_get (stages pipeline schedule boxes) k ≡ Some stage
        → (part_at text (size pipeline schedule boxes.funcs) harts parts matter k).tasks ≡ iterations pipeline schedule boxes stage
    -- each byte of a point that an iteration writes is its task's own, and written
    pub own_bytes : (k : ℕ) (stage : StagePosition) → slice_get (stages pipeline schedule boxes) k ≡ Some stage → (task : ℕ)
        → task < iterations pipeline schedule boxes stage
        → (x y byte : ℕ) → writes pipeline schedule boxes inputs stage task x y ≡ true → byte < 4
        → let address = address_at pipeline schedule boxes.funcs 0 (sources.Func stage.func) x y + byte in
        ((matter k).uses address ≡ Owned task) × ((matter k).writes task address ≡ true)
    -- their Funcs are computed at root, and have boxes
    pub roots_are : (k : ℕ) (stage : StagePosition) → slice_get (stages pipeline schedule boxes) k ≡ Some stage → RootFunc pipeline schedule boxes.funcs stage.func
    -- a stage is a pure definition or an update
    pub numbers_are : (k : ℕ) (stage : StagePosition) (func : Func) → slice_get (stages pipeline schedule boxes) k ≡ Some stage
        → slice_get pipeline.funcs stage.func ≡ Some func
        → stage.number ≤ length func.updates
    -- a byte of a point of a Func at root stays as it is in a phase, or one task of the phase owns it, which computes a stage of the Func
    pub root_bytes : (k func x y byte : ℕ) → k ≤ last → RootPoint pipeline schedule boxes.funcs func x y → byte < 4
        → let address = address_at pipeline schedule boxes.funcs 0 (sources.Func func) x y + byte in
        ((matter k).uses address ≡ Fixed) ⊎ IsOwnedIn matter k func address
    -- Where a phase writes its Func's points in runs, what keeps its rule is one run.
    pub runs_are : (k place : ℕ) (func : Func) (plan : FuncPlan) (own : SourceBox) (number : ℕ) → IsAtRoot pipeline schedule boxes place func plan own
        → slice_get (stages pipeline schedule boxes) k ≡ Some (record { func = place; number = number })
        → writes_runs plan number ≡ true
        → (task : ℕ) (written : List ℕ) → (matter k).rule task written ≡ true
        → IsOneRun (address_at pipeline schedule boxes.funcs 0 (sources.Func place)) (extents_of own) plan.pure written
    pub ends : (left : List ℕ)
        → ((address task : ℕ) → task < (part_at text (size pipeline schedule boxes.funcs) harts parts matter last).tasks
        → (matter last).uses address ≡ Owned task → byte_at text left address ≡ (matter last).result address)
        → ((address : ℕ) → (matter last).uses address ≡ Fixed → byte_at text left address ≡ (matter last).start address)
        → HoldsPixels text left inputs

-- ---- law

-- of any parts that do the phases' tasks where the layout has the buffers
abbrev pub PhasesAreShared : Type 0
PhasesAreShared =
    (pipeline : Pipeline) (schedule : Schedule) (boxes : Boxes) → IsWellFormed pipeline → IsAccepted pipeline schedule → inferred pipeline schedule ≡ Ok boxes
    → (inputs : Planes) → AnswerWords pipeline.inputs (reads_of inputs (pixels pipeline.funcs inputs 0))
    → (phases : List Phase) → AreLowered pipeline schedule boxes (length pipeline.funcs) phases
    → (parts : List Part) → ArePartsOf (places pipeline schedule boxes.funcs) 0 phases parts → AllByRecursion HasFewTasks phases
    → (harts : ℕ) → 0 < harts → harts ≤ 8 → (last : ℕ) → length phases ≡ suc last
    → (text memory : List ℕ) → Stand text text_start (program 0 parts) → OpensWith pipeline schedule boxes text memory inputs
    → AreShared pipeline schedule boxes harts parts last text memory inputs
