-- Which points the tasks of a phase may touch.
--
-- A task may write the points of the phase's own Func that it owns, and all points of private buffers. It may load these too, points of inputs
-- within their extents, and all points of other Funcs that are computed at root. Nothing is said of order: what holds here holds whatever
-- buffers answer, private ones among them.
-- This project's own.
use Rattle.std.specs.Prelude.{◌<◌, ℕ, ◌==◌, ◌&&◌, ◌||◌, if◌then◌else◌, Bool, false, List, Option, Some, None, slice_get}
use Rattle.std.specs.List.{list_any}
use Rattle.halide_pipeline.specs.declared.expressions.Source.{Source}
use Rattle.halide_pipeline.specs.declared.expressions.Source.TheVariants as sources
use Rattle.halide_pipeline.specs.Pipelines.{Pipeline}
use Rattle.halide_pipeline.specs.Points.{Point}
use Rattle.schedule.specs.declared.schedules.Schedule.{Schedule}
use Rattle.schedule.specs.declared.placements.FuncPlacement.{FuncPlacement}
use Rattle.bounds.specs.declared.boxes.SourceBox.{SourceBox}
use Rattle.bounds.specs.declared.verdict.Boxes.{Boxes}
use Rattle.bounds_laws.specs.Closure.{is_within}
use Rattle.loop_ir.specs.declared.statements.Phase.{Phase}
use Rattle.loop_ir.specs.Buffers.{Points}
use Rattle.loop_ir.specs.Running.{task_values}
use Rattle.loop_ir.specs.Soundness.{IsSound}
use Rattle.bounds_ranges.specs.Laws.{AnswerWords}
use Rattle.lowering.specs.Planes.{box_points}
use Rattle.lowering.specs.PurePhases.{is_at_root}

-- ---- which Funcs they are

abbrev pub is_root_in : Option FuncPlacement → Bool
is_root_in None = false
is_root_in (Some own) = is_at_root own

-- the output reaches it, and it is computed at root
abbrev pub is_root_at : List FuncPlacement → ℕ → Bool
is_root_at standings func_index = is_root_in (slice_get standings func_index)

abbrev pub is_listed : List ℕ → ℕ → Bool
is_listed places func_index = list_any (λ own. own == func_index) places

-- ---- which points they are

-- by a task that owns these points of the Func at a place, in a phase with these private buffers
abbrev pub may_write : List (Option SourceBox) → ℕ → (ℕ → ℕ → Bool) → List ℕ → Points
may_write boxes func_index owned private func x y = if func == func_index then owned x y else is_listed private func && box_points boxes func x y

abbrev pub may_load_at : Pipeline → Schedule → Boxes → ℕ → (ℕ → ℕ → Bool) → List ℕ → Source → ℕ → ℕ → Bool
may_load_at pipeline schedule boxes func_index owned private (sources.Input input) x y = is_within (slice_get pipeline.inputs input) x y
may_load_at pipeline schedule boxes func_index owned private (sources.Func func) x y =
    if func == func_index then owned x y else (is_root_at schedule.standings func || is_listed private func) && box_points boxes.funcs func x y

abbrev pub may_load : Pipeline → Schedule → Boxes → ℕ → (ℕ → ℕ → Bool) → List ℕ → Point → Bool
may_load pipeline schedule boxes func_index owned private point = may_load_at pipeline schedule boxes func_index owned private point.source point.x point.y

-- Each task of the phase, of which each owns these points of the Func at a place, touches such points alone, wherever reads are answered by
-- words, and those of inputs of bytes by bytes.
abbrev pub TouchesItsOwn : Pipeline → Schedule → Boxes → ℕ → (ℕ → ℕ → ℕ → Bool) → Phase → Type 0
TouchesItsOwn pipeline schedule boxes func_index owned phase =
    (task : ℕ) → task < phase.tasks
    → IsSound (AnswerWords pipeline.inputs) (may_write boxes.funcs func_index (owned task) phase.private) (may_load pipeline schedule boxes func_index (owned task)
    phase.private)
    phase.body (task_values phase.counter task)
