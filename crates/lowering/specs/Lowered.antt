-- The phases of a pipeline under a schedule: one for each stage of each Func that is computed at root and that the output reaches, in order
-- of the text. They leave the pipeline's pixels.
-- This project's own.
use Rattle.std.specs.Prelude.{◌≡◌, ◌<◌, ℕ, suc, Bool, true, List, [], ◌∷◌, ◌++◌, map, length, slice_get, Option, Some, None, Ok}
use Rattle.halide_pipeline.specs.declared.definitions.Func.{Func}
use Rattle.halide_pipeline.specs.declared.definitions.Update.{Update}
use Rattle.halide_pipeline.specs.Pipelines.{Pipeline}
use Rattle.halide_pipeline.specs.WellFormed.{IsWellFormed}
use Rattle.halide_pipeline.specs.Words as word
use Rattle.halide_pipeline.specs.Pixel.{Planes, reads_of, pixels}
use Rattle.schedule_lines.specs.declared.stages.Stage.{Stage}
use Rattle.schedule.specs.declared.plans.FuncPlan.{FuncPlan}
use Rattle.schedule.specs.declared.schedules.Schedule.{Schedule}
use Rattle.schedule.specs.Accepted.{IsAccepted}
use Rattle.schedule_loops.specs.Visits.{iteration_count, owns}
use Rattle.bounds_ranges.specs.Laws.{AnswerWords}
use Rattle.bounds.specs.declared.boxes.SourceBox.{SourceBox}
use Rattle.bounds.specs.declared.verdict.Boxes.{Boxes}
use Rattle.bounds.specs.Extents.{box_in, extents_of, update_extents, corner_of}
use Rattle.bounds.specs.Verdict.{inferred}
use Rattle.loop_ir.specs.declared.statements.Phase.{Phase}
use Rattle.loop_ir.specs.Running.{run_task}
use Rattle.lowering.specs.Order.{Tasks, DoneInOrder, DoPhases, AgreeThere}
use Rattle.lowering.specs.ProducedFuncs.{produced_from}
use Rattle.lowering.specs.Planes.{held, box_points}
use Rattle.lowering.specs.PurePhases.{byte_places}
use Rattle.bounds.specs.Stages.{IsAtRoot}
use Rattle.lowering.specs.Registers.{TakesFew}
use Rattle.lowering.specs.LoopLanes.{LanesMayBeAtOnce}
use Rattle.lowering.specs.Runs.{StoresInRuns}
use Rattle.lowering.specs.Sizes.{IsLight}
use Rattle.lowering.specs.Stages.{is_private, DoesStage}
use Rattle.lowering.specs.Stored.{StoresItsOwn, StoresWhatItNames}
use Rattle.lowering.specs.Touching.{TouchesItsOwn}
use Rattle.lowering.specs.Updates.{IsUpdateAt, owns_update}

-- ---- which phases there are

module _ (pipeline : Pipeline) (schedule : Schedule) (boxes : Boxes) where
  -- The phase of the stage with this number of a Func: how many tasks it has, which points each owns, which buffers are private, which
  -- inputs are bytes, what its tasks touch, that they take few registers and few words of code, which points its tasks store at, that the
  -- lanes of vectorized loops may be done at once, and which points a run of a pure definition's vectorized loop stores at.
  pub data IsStagePhase (func_index : ℕ) (func : Func) (plan : FuncPlan) (source_box : SourceBox) : ℕ → Phase
      → Type 0 where
    Pure : (phase : Phase) → phase.tasks ≡ iteration_count (extents_of source_box) plan.pure → phase.private ≡ produced_from func_index 0 schedule.standings
        → phase.bytes ≡ byte_places 0 pipeline.inputs
        → DoesStage pipeline schedule boxes func_index func 0 (owns (extents_of source_box) plan.pure) phase
        → TouchesItsOwn pipeline schedule boxes func_index (owns (extents_of source_box) plan.pure) phase → TakesFew pipeline schedule phase
        × IsLight pipeline schedule func_index func plan 0 phase
        → StoresItsOwn boxes func_index (owns (extents_of source_box) plan.pure) phase → LanesMayBeAtOnce phase → StoresInRuns func_index (extents_of source_box) plan.pure phase
        → IsStagePhase func_index func plan source_box 0 phase
    Updating : (at : ℕ) (update : Update) (stage : Stage) (phase : Phase) → IsUpdateAt schedule func_index func plan at update stage
        → phase.tasks ≡ iteration_count (update_extents source_box update) stage → phase.private ≡ [] → phase.bytes ≡ byte_places 0 pipeline.inputs
        → DoesStage pipeline schedule boxes func_index func (suc at) (owns_update source_box update stage) phase
        → TouchesItsOwn pipeline schedule boxes func_index (owns_update source_box update stage) phase → TakesFew pipeline schedule phase
        × IsLight pipeline schedule func_index func plan (suc at) phase
        → StoresWhatItNames pipeline schedule boxes func_index func at source_box update stage phase
        → LanesMayBeAtOnce phase
        → IsStagePhase func_index func plan source_box (suc at) phase

  -- There is one exactly if there is the stage.
  abbrev pub IsStagePhaseIfThere : ℕ → Func → FuncPlan → SourceBox → ℕ → Option Phase → Type 0
  IsStagePhaseIfThere func_index func plan source_box number None = length func.updates < number
  IsStagePhaseIfThere func_index func plan source_box number (Some phase) = IsStagePhase func_index func plan source_box
      number phase

  -- After other phases stand those of the first this many stages of a Func.
  pub data ArePhasesOf (func_index : ℕ) (func : Func) (plan : FuncPlan) (source_box : SourceBox) (others : List Phase) : ℕ → List Phase → Type 0 where
    None_yet : ArePhasesOf func_index func plan source_box others 0 others
    One_more : (number : ℕ) (phases : List Phase) (phase : Phase)
        → ArePhasesOf func_index func plan source_box others number phases
        → IsStagePhase func_index func plan source_box number phase
        → ArePhasesOf func_index func plan source_box others (suc number) (phases ++ phase ∷ [])

  -- No phase is of this Func: the output doesn't reach it, or it isn't computed at root.
  abbrev pub IsNotAtRoot : ℕ → Type 0
  IsNotAtRoot func_index = (func : Func) (plan : FuncPlan) (source_box : SourceBox) → IsAtRoot pipeline schedule boxes func_index func plan source_box → ⊥

  -- the phases of the first this many Funcs
  pub data AreLowered : ℕ → List Phase → Type 0 where
    No_func : AreLowered 0 []
    Passed : (func_index : ℕ) (phases : List Phase) → AreLowered func_index phases → IsNotAtRoot func_index → AreLowered (suc func_index) phases
    Computed : (func_index : ℕ) (before phases : List Phase) (func : Func) (plan : FuncPlan) (source_box : SourceBox) → AreLowered func_index before
        → IsAtRoot pipeline schedule boxes func_index func plan source_box → ArePhasesOf func_index func plan source_box before (suc (length func.updates)) phases
        → AreLowered (suc func_index) phases

  -- ---- what they leave

  abbrev pub tasks_of : Planes → Phase → Tasks
  tasks_of inputs phase = record { count = phase.tasks; run = run_task (box_points boxes.funcs) inputs phase }

  -- From buffers of zeros they come to the pixels of all Funcs, whatever order their tasks run in.
  abbrev pub DoPixels : List Phase → Type 0
  DoPixels phases = (inputs : Planes) → AnswerWords pipeline.inputs (reads_of inputs (pixels pipeline.funcs inputs 0))
      → DoPhases (box_points boxes.funcs) (is_private schedule.standings) (map (tasks_of inputs) phases)
      (held boxes.funcs (pixels pipeline.funcs inputs 0)) (held boxes.funcs (pixels pipeline.funcs inputs (length pipeline.funcs)))

  -- where the output's buffer has a point of the picture
  abbrev pub output_at : Planes → ℕ → ℕ → ℕ
  output_at funcs x y =
      funcs pipeline.output.func (word.subtract x (corner_of (box_in (slice_get boxes.funcs pipeline.output.func))).x)
      (word.subtract y (corner_of (box_in (slice_get boxes.funcs pipeline.output.func))).y)

  -- whether it has it
  abbrev pub has_output_at : ℕ → ℕ → Bool
  has_output_at x y =
      box_points boxes.funcs pipeline.output.func (word.subtract x (corner_of (box_in (slice_get boxes.funcs pipeline.output.func))).x)
      (word.subtract y (corner_of (box_in (slice_get boxes.funcs pipeline.output.func))).y)

  -- Wherever the phases were done one after the other, the tasks of each in any order and whatever private buffers held before each, from
  -- buffers of zeros, private ones apart, the output's buffer has each point of the picture and holds the output's pixels. (A phase asks for
  -- zeros in the buffers of the Funcs after its own, since those aren't its to write.)
  abbrev pub LeaveOutput : List Phase → Type 0
  LeaveOutput phases = (inputs : Planes) → AnswerWords pipeline.inputs (reads_of inputs (pixels pipeline.funcs inputs 0))
      → (funcs after : Planes) → AgreeThere (box_points boxes.funcs) (is_private schedule.standings) funcs (λ func_index x y. 0)
      → DoneInOrder (is_private schedule.standings) (map (tasks_of inputs) phases) funcs after
      → (x y : ℕ) → x < pipeline.output.width → y < pipeline.output.height
      → (has_output_at x y ≡ true) × (output_at after x y ≡ pixels pipeline.funcs inputs (length pipeline.funcs) pipeline.output.func x y)

-- ---- laws

abbrev pub PhasesDoPixels : Type 0
PhasesDoPixels = (pipeline : Pipeline) (schedule : Schedule) (boxes : Boxes) → IsAccepted pipeline schedule → inferred pipeline schedule ≡ Ok boxes
    → (phases : List Phase) → AreLowered pipeline schedule boxes (length pipeline.funcs) phases → DoPixels pipeline schedule boxes phases

abbrev pub PhasesLeaveOutput : Type 0
PhasesLeaveOutput = (pipeline : Pipeline) (schedule : Schedule) (boxes : Boxes) → IsWellFormed pipeline → IsAccepted pipeline schedule
    → inferred pipeline schedule ≡ Ok boxes
    → (phases : List Phase) → AreLowered pipeline schedule boxes (length pipeline.funcs) phases → LeaveOutput pipeline schedule boxes phases
