-- Boxes are those of the Funcs that the output reaches, and each of these that isn't inlined has one.
--
-- So what is said of Funcs that have a box, as of the phases of an image, is said of those that the output reaches.
-- This project's own.
use Rattle.std.specs.Prelude.{◌≡◌, ℕ, ◌+◌, ◌&&◌, Bool, false, if◌then◌else◌, List, [], ◌∷◌, length, slice_get, Option, Some, None, Ok, is_some}
use Rattle.halide_pipeline.specs.declared.definitions.Func.{Func}
use Rattle.halide_pipeline.specs.Pipelines.{Pipeline}
use Rattle.schedule.specs.declared.schedules.Schedule.{Schedule}
use Rattle.schedule.specs.declared.placements.FuncPlacement.{FuncPlacement}
use Rattle.schedule.specs.Accepted.{IsAccepted}
use Rattle.schedule.specs.Legal.{is_root}
use Rattle.bounds_weights.specs.Weight.{is_computed}
use Rattle.bounds.specs.declared.verdict.Boxes.{Boxes}
use Rattle.bounds.specs.Extents.{box_in}
use Rattle.bounds.specs.Verdict.{inferred}

-- The Func at a place is computed: the output reaches it, and it isn't inlined.
abbrev pub is_computed_there : Option FuncPlacement → Bool
is_computed_there None = false
is_computed_there (Some own) = is_computed own

-- There is a box for a Func exactly where the output reaches it and it isn't inlined.
abbrev pub BoxesAreOfReachedFuncs : Type 0
BoxesAreOfReachedFuncs = (pipeline : Pipeline) (schedule : Schedule) (boxes : Boxes) → IsAccepted pipeline schedule → inferred pipeline schedule ≡ Ok boxes
    → (func_index : ℕ) → is_some (box_in (slice_get boxes.funcs func_index)) ≡ is_computed_there (slice_get schedule.standings func_index)

-- how many stages the Funcs at root have that the output reaches: of each its pure definition, and its updates
abbrev pub reached_stages : List FuncPlacement → List Func → ℕ
reached_stages [] funcs = 0
reached_stages (standing ∷ standings) [] = 0
reached_stages (standing ∷ standings) (func ∷ funcs) =
    (if standing.is_reached && is_root standing.place then length func.updates + 1 else 0) + reached_stages standings funcs

-- The layout counts a phase for each of them.
abbrev pub PhasesAreReachedStages : Type 0
PhasesAreReachedStages = (pipeline : Pipeline) (schedule : Schedule) (boxes : Boxes) → IsAccepted pipeline schedule → inferred pipeline schedule ≡ Ok boxes
    → boxes.layout.phases ≡ reached_stages schedule.standings pipeline.funcs
