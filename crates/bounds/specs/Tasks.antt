-- How many tasks the phases of a compiled image have. Each stage of a Func that is computed at root is a phase: it has one task for each
-- iteration of its stage's parallel loop, or one where none is parallel.
-- This project's own.
use Rattle.std.specs.Prelude.{ℕ, List, Option, Some, None, slice_get}
use Rattle.halide_pipeline.specs.declared.definitions.Func.{Func}
use Rattle.halide_pipeline.specs.declared.definitions.Update.{Update}
use Rattle.halide_pipeline.specs.Pipelines.{Pipeline}
use Rattle.schedule_lines.specs.declared.stages.Stage.{Stage}
use Rattle.schedule_lines.specs.declared.stages.StageName.{StageName}
use Rattle.schedule.specs.declared.plans.FuncPlan.{FuncPlan}
use Rattle.schedule.specs.declared.schedules.Schedule.{Schedule}
use Rattle.schedule_loops.specs.Visits.{iteration_count}
use Rattle.bounds.specs.declared.boxes.SourceBox.{SourceBox}
use Rattle.bounds.specs.Extents.{box_in, extents_of, update_extents}

abbrev pub update_tasks : SourceBox → Option Update → Option Stage → Option ℕ
update_tasks source_box None stage = None
update_tasks source_box (Some update) None = None
update_tasks source_box (Some update) (Some stage) = Some (iteration_count (update_extents source_box update) stage)

abbrev pub stage_tasks : SourceBox → Func → FuncPlan → Option ℕ → Option ℕ
stage_tasks source_box func plan None = Some (iteration_count (extents_of source_box) plan.pure)
stage_tasks source_box func plan (Some at) = update_tasks source_box (slice_get func.updates at)
    (slice_get plan.updates at)

abbrev pub func_tasks : Option SourceBox → Option Func → Option FuncPlan → Option ℕ → Option ℕ
func_tasks None func plan update = None
func_tasks (Some own) None plan update = None
func_tasks (Some own) (Some func) None update = None
func_tasks (Some own) (Some func) (Some plan) update = stage_tasks own func plan update

-- of a stage of a Func that has a box
unfoldable pub tasks : Pipeline → Schedule → List (Option SourceBox) → StageName → Option ℕ
tasks pipeline schedule boxes name = func_tasks (box_in (slice_get boxes name.func)) (slice_get pipeline.funcs name.func) (slice_get schedule.funcs name.func)
    name.update
