-- Where the buffers of a pipeline lie, for the code of its tasks: at the layout's addresses.
-- This project's own.
use Rattle.std.specs.Prelude.{ℕ, ◌*◌, if◌then◌else◌, List, [], ◌∷◌, Option, Some, None}
use Rattle.halide_pipeline.specs.declared.definitions.Input.{Input}
use Rattle.halide_pipeline.specs.Pipelines.{Pipeline}
use Rattle.schedule.specs.declared.schedules.Schedule.{Schedule}
use Rattle.schedule.specs.declared.placements.ComputeLevel.{ComputeLevel}
use Rattle.schedule.specs.declared.placements.ComputeLevel.TheVariants as standpoints
use Rattle.schedule.specs.declared.placements.FuncPlacement.{FuncPlacement}
use Rattle.bounds.specs.declared.boxes.SourceBox.{SourceBox}
use Rattle.bounds.specs.declared.layout.Layout.{Layout}
use Rattle.bounds.specs.Extents.{extent, points}
use Rattle.task_code_scalar.specs.declared.layouts.Pixels.TheVariants as pixels
use Rattle.task_code_scalar.specs.declared.layouts.BufferLayout.{BufferLayout}
use Rattle.task_code_scalar.specs.declared.layouts.Places.{Places}
use Rattle.task_code_scalar.specs.Code.{nowhere}

abbrev pub input_place : ℕ → Input → BufferLayout
input_place at input = record { start = at; width = input.width; distance = 0; pixels = if input.is_bytes then pixels.Bytes else pixels.Words }

abbrev pub input_places : List ℕ → List Input → List BufferLayout
input_places [] inputs = []
input_places (at ∷ ats) [] = []
input_places (at ∷ ats) (input ∷ inputs) = input_place at input ∷ input_places ats inputs

-- of a Func with such a box, from where the layout would have it at root and where at a loop
abbrev pub func_place : ComputeLevel → Option SourceBox → ℕ → ℕ → BufferLayout
func_place standpoints.Root (Some own) root private = record { start = root; width = extent own.x; distance = 0; pixels = pixels.Words }
func_place (standpoints.At at) (Some own) root private = record { start = private; width = extent own.x; distance = 4 * points own; pixels = pixels.Words }
func_place _ own root private = nowhere

abbrev pub func_places : List FuncPlacement → List (Option SourceBox) → List ℕ → List ℕ → List BufferLayout
func_places [] boxes roots privates = []
func_places (standing ∷ standings) [] roots privates = []
func_places (standing ∷ standings) (own ∷ boxes) [] privates = []
func_places (standing ∷ standings) (own ∷ boxes) (root ∷ roots) [] = []
func_places (standing ∷ standings) (own ∷ boxes) (root ∷ roots) (private ∷ privates) =
    func_place standing.place own root private ∷ func_places standings boxes roots privates

abbrev pub places_of : Pipeline → Schedule → List (Option SourceBox) → Layout → Places
places_of pipeline schedule boxes layout = record {
  inputs = input_places layout.inputs pipeline.inputs;
  funcs = func_places schedule.standings boxes layout.roots layout.privates;
  frames = if layout.has_frames then Some layout.frames else None;
}
