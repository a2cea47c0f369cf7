-- Which points of its Func a task of a phase stores at.
--
-- They are the points of the box that its iteration writes: of a pure definition those that the iteration visits; of an update those that the
-- left side names at some reduction point, where arguments in place lie inside the iteration. Left sides read no pixel of their own Func.
-- This project's own.
use Rattle.std.specs.Prelude.{◌≡◌, ◌<◌, ℕ, suc, Bool, true}
use Rattle.halide_pipeline.specs.declared.definitions.Func.{Func}
use Rattle.halide_pipeline.specs.declared.definitions.Update.{Update}
use Rattle.halide_pipeline.specs.Pipelines.{Pipeline}
use Rattle.halide_pipeline.specs.Pixel.{Planes, reads_of, pixels}
use Rattle.schedule_lines.specs.declared.stages.Stage.{Stage}
use Rattle.schedule.specs.declared.schedules.Schedule.{Schedule}
use Rattle.bounds_ranges.specs.Laws.{AnswerWords}
use Rattle.bounds.specs.declared.boxes.SourceBox.{SourceBox}
use Rattle.bounds.specs.declared.verdict.Boxes.{Boxes}
use Rattle.loop_ir.specs.declared.statements.Phase.{Phase}
use Rattle.loop_ir.specs.Stores.{is_stored_by_task}
use Rattle.lowering.specs.Phases.{Hold}
use Rattle.lowering.specs.Planes.{held, box_points}
use Rattle.bounds.specs.Stages.{names}
use Rattle.lowering.specs.Stages.{is_private, after_stages}
use Rattle.lowering.specs.Updates.{owns_update}

-- ---- pure definitions

-- Each task of the phase, of which each owns these points of the Func at a place, stores at a point of the Func exactly if it owns it,
-- whatever buffers hold.
abbrev pub StoresItsOwn : Boxes → ℕ → (ℕ → ℕ → ℕ → Bool) → Phase → Type 0
StoresItsOwn boxes func_index owned phase =
    (inputs funcs : Planes) (task : ℕ) → task < phase.tasks → (x y : ℕ) → is_stored_by_task (box_points boxes.funcs) inputs phase task func_index x y funcs
    ≡ owned task x y

-- ---- updates

-- Each task stores at a point exactly if the left side names it, from buffers that hold the start, at the points of the own Func that the task
-- owns and at all points of others; and it owns what the left side names.
pub record StoresWhatItNames (pipeline : Pipeline) (schedule : Schedule) (boxes : Boxes) (func_index : ℕ) (func : Func) (at : ℕ) (source_box : SourceBox) (update : Update)
    (stage : Stage) (phase : Phase) : Type 0 where
  pub owned : (inputs : Planes) → AnswerWords pipeline.inputs (reads_of inputs (pixels pipeline.funcs inputs 0)) → (task : ℕ) → task < phase.tasks
      → (x y : ℕ) → names pipeline inputs func_index source_box update stage task x y ≡ true → owns_update source_box update stage task x y ≡ true
  pub exactly : (inputs : Planes) → AnswerWords pipeline.inputs (reads_of inputs (pixels pipeline.funcs inputs 0)) → (funcs : Planes) (task : ℕ)
      → task < phase.tasks
      → Hold (box_points boxes.funcs) (is_private schedule.standings) func_index
      (owns_update source_box update stage task)
      (held boxes.funcs (after_stages pipeline.funcs inputs func_index func (suc at))) funcs
      → (x y : ℕ) → is_stored_by_task (box_points boxes.funcs) inputs phase task func_index x y funcs ≡ names pipeline inputs func_index source_box update stage task x y
