-- The stages that are listed are those of the Funcs at root that the output reaches. Each has an iteration, and the iterations of a pure
-- definition write all points of its Func's box.
-- This project's own.
use Rattle.std.specs.Prelude.{◌≡◌, ◌<◌, ◌&&◌, ℕ, zero, suc, true, if◌then◌else◌, List, [], ◌++◌, length, slice_get, Option, Some, None, Ok}
use Rattle.halide_pipeline.specs.declared.definitions.Func.{Func}
use Rattle.halide_pipeline.specs.Pipelines.{Pipeline}
use Rattle.halide_pipeline.specs.Pixel.{Planes}
use Rattle.halide_pipeline.specs.WellFormed.{IsWellFormed}
use Rattle.schedule.specs.declared.schedules.Schedule.{Schedule}
use Rattle.schedule.specs.declared.placements.FuncPlacement.{FuncPlacement}
use Rattle.schedule.specs.Accepted.{IsAccepted}
use Rattle.schedule.specs.Legal.{is_root}
use Rattle.bounds.specs.declared.boxes.SourceBox.{SourceBox}
use Rattle.bounds.specs.declared.verdict.Boxes.{Boxes}
use Rattle.bounds.specs.Extents.{extent}
use Rattle.bounds.specs.Verdict.{inferred}
use Rattle.bounds.specs.Stages.{StagePosition, stages_to, stages, iterations, writes}

-- ---- which stages they are, without a word of boxes

abbrev pub reached_at : ℕ → Option FuncPlacement → Option Func → List StagePosition
reached_at place None func = []
reached_at place (Some own) None = []
reached_at place (Some own) (Some func) = if own.is_reached && is_root own.place then stages_to place (suc (length func.updates)) else []

-- of the first this many Funcs
abbrev pub reached_below : Pipeline → Schedule → ℕ → List StagePosition
reached_below pipeline schedule zero = []
reached_below pipeline schedule (suc place) = reached_below pipeline schedule place
    ++ reached_at place (slice_get schedule.standings place) (slice_get pipeline.funcs place)

abbrev pub StagesAreReached : Type 0
StagesAreReached = (pipeline : Pipeline) (schedule : Schedule) (boxes : Boxes) → IsAccepted pipeline schedule → inferred pipeline schedule ≡ Ok boxes
    → stages pipeline schedule boxes ≡ reached_below pipeline schedule (length pipeline.funcs)

-- ---- their iterations

abbrev pub StagesHaveIterations : Type 0
StagesHaveIterations = (pipeline : Pipeline) (schedule : Schedule) (boxes : Boxes) → IsWellFormed pipeline → IsAccepted pipeline schedule
    → inferred pipeline schedule ≡ Ok boxes
    → (phase : ℕ) (stage : StagePosition) → slice_get (stages pipeline schedule boxes) phase ≡ Some stage → 0 < iterations pipeline schedule boxes stage

-- an iteration of the stage that writes the point
pub record IsWritten (pipeline : Pipeline) (schedule : Schedule) (boxes : Boxes) (inputs : Planes) (stage : StagePosition) (x y : ℕ) : Type 0 where
  pub iteration : ℕ
  pub is_iteration : iteration < iterations pipeline schedule boxes stage
  pub writes_it : writes pipeline schedule boxes inputs stage iteration x y ≡ true

abbrev pub PureStagesWriteAll : Type 0
PureStagesWriteAll = (pipeline : Pipeline) (schedule : Schedule) (boxes : Boxes) → IsWellFormed pipeline → IsAccepted pipeline schedule
    → inferred pipeline schedule ≡ Ok boxes
    → (inputs : Planes) (phase : ℕ) (stage : StagePosition) → slice_get (stages pipeline schedule boxes) phase ≡ Some stage → stage.number ≡ 0
    → (own : SourceBox) → slice_get boxes.funcs stage.func ≡ Some (Some own) → (x y : ℕ) → x < extent own.x → y < extent own.y
    → IsWritten pipeline schedule boxes inputs stage x y
