-- Where the data of a compiled image lie, without gaps: two words for each phase; the inputs, in order; the boxes of the Funcs computed at
-- root, in order; eight copies of the box of each Func computed at a loop, in order; and where some expression needs it, eight frames.
-- This project's own.
use Rattle.std.specs.Prelude.{◌≤◌, ℕ, ◌+◌, ◌*◌, ◌/◌, ◌^◌, Bool, if◌then◌else◌, IsTrue, List, [], ◌∷◌, length, map, Option, Some}
use Rattle.std.specs.List.{AllByRecursion}
use Rattle.halide_pipeline.specs.declared.definitions.Func.{Func}
use Rattle.halide_pipeline.specs.declared.definitions.Input.{Input}
use Rattle.halide_pipeline.specs.Pipelines.{Pipeline}
use Rattle.halide_pipeline.specs.WellFormed.{is_input}
use Rattle.schedule.specs.declared.schedules.Schedule.{Schedule}
use Rattle.schedule.specs.declared.placements.ComputeLevel.{ComputeLevel}
use Rattle.schedule.specs.declared.placements.ComputeLevel.TheVariants as places
use Rattle.schedule.specs.declared.placements.FuncPlacement.{FuncPlacement}
use Rattle.bounds_weights.specs.Weight.{needs, has_frames}
use Rattle.bounds.specs.declared.boxes.SourceBox.{SourceBox}
use Rattle.bounds.specs.declared.layout.Layout.{Layout}
use Rattle.bounds.specs.Extents.{points}

-- where the data begin
abbrev pub data_start : ℕ
data_start = 0x200000

-- ---- sizes in bytes

-- a byte for each pixel, and zeros up to a multiple of 4; or four bytes
abbrev pub input_bytes : Input → ℕ
input_bytes input = if input.is_bytes then (input.width * input.height + 3) / 4 * 4 else input.width * input.height * 4

-- the box of a Func, if it is computed at root
abbrev pub root_bytes : ComputeLevel → Option SourceBox → ℕ
root_bytes places.Root (Some source_box) = points source_box * 4
root_bytes _ source_box = 0

-- all copies of it, if it is computed at a loop
abbrev pub private_bytes : ComputeLevel → Option SourceBox → ℕ
private_bytes (places.At place) (Some source_box) = points source_box * 4 * 8
private_bytes _ source_box = 0

abbrev pub root_sizes : List FuncPlacement → List (Option SourceBox) → List ℕ
root_sizes [] boxes = []
root_sizes (standing ∷ standings) [] = []
root_sizes (standing ∷ standings) (own ∷ boxes) = root_bytes standing.place own ∷ root_sizes standings boxes

abbrev pub private_sizes : List FuncPlacement → List (Option SourceBox) → List ℕ
private_sizes [] boxes = []
private_sizes (standing ∷ standings) [] = []
private_sizes (standing ∷ standings) (own ∷ boxes) = private_bytes standing.place own ∷ private_sizes standings boxes

abbrev pub frame_bytes : Bool → ℕ
frame_bytes is_needed = if is_needed then 8 * 4096 else 0

-- ---- phases: the stages of Funcs computed at root

abbrev pub phases_of : ComputeLevel → Func → Option SourceBox → ℕ
phases_of places.Root func (Some source_box) = length func.updates + 1
phases_of _ func source_box = 0

abbrev pub phases : List FuncPlacement → List Func → List (Option SourceBox) → ℕ
phases [] funcs boxes = 0
phases (standing ∷ standings) [] boxes = 0
phases (standing ∷ standings) (func ∷ funcs) [] = 0
phases (standing ∷ standings) (func ∷ funcs) (own ∷ boxes) = phases_of standing.place func own + phases standings funcs boxes

-- ---- one after the other

abbrev pub total : List ℕ → ℕ
total [] = 0
total (size ∷ sizes) = size + total sizes

abbrev pub placed : ℕ → List ℕ → List ℕ
placed start [] = []
placed start (size ∷ sizes) = start ∷ placed (start + size) sizes

unfoldable pub laid_in : ℕ → List ℕ → List ℕ → List ℕ → Bool → Layout
laid_in phases inputs roots privates has_frames = record {
  phases = phases;
  inputs = placed (data_start + 8 * phases) inputs;
  roots = placed (data_start + 8 * phases + total inputs) roots;
  privates = placed (data_start + 8 * phases + total inputs + total roots) privates;
  frames = data_start + 8 * phases + total inputs + total roots + total privates;
  has_frames = has_frames;
  size = 8 * phases + total inputs + total roots + total privates + frame_bytes has_frames;
}

abbrev pub laid_out : Pipeline → Schedule → List (Option SourceBox) → Layout
laid_out pipeline schedule boxes =
    laid_in (phases schedule.standings pipeline.funcs boxes) (map input_bytes pipeline.inputs) (root_sizes schedule.standings boxes)
    (private_sizes schedule.standings boxes) (has_frames (needs pipeline schedule))

-- ---- sizes that fit the code's numbers

abbrev pub IsSize : ℕ → Type 0
IsSize size = size ≤ 2 ^ 56

unfoldable pub AreSizes : List ℕ → Type 0
AreSizes sizes = AllByRecursion IsSize sizes

abbrev pub IsInput : Input → Type 0
IsInput input = IsTrue (is_input input)

abbrev pub AreInputs : List Input → Type 0
AreInputs inputs = AllByRecursion IsInput inputs

abbrev pub HasFewUpdates : Func → Type 0
HasFewUpdates func = length func.updates ≤ 4

abbrev pub HaveFewUpdates : List Func → Type 0
HaveFewUpdates funcs = AllByRecursion HasFewUpdates funcs
