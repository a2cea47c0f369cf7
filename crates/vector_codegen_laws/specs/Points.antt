-- Points of buffers in memory: each byte of one is found as that byte, and lies in the data.
-- This project's own.
use Rattle.std.specs.Prelude.{◌≡◌, ◌<◌, ◌≤◌, ℕ, ◌+◌, ◌*◌, ◌%◌, true, false, List, slice_get, Option, Some}
use Rattle.halide_pipeline.specs.declared.definitions.Input.{Input}
use Rattle.halide_pipeline.specs.declared.expressions.Source.{Source}
use Rattle.halide_pipeline.specs.declared.expressions.Source.TheVariants as sources
use Rattle.halide_pipeline.specs.Pipelines.{Pipeline}
use Rattle.schedule.specs.declared.schedules.Schedule.{Schedule}
use Rattle.schedule.specs.declared.placements.LoopPosition.{LoopPosition}
use Rattle.schedule.specs.declared.placements.ComputeLevel.TheVariants as standpoints
use Rattle.schedule.specs.declared.placements.FuncPlacement.{FuncPlacement}
use Rattle.bounds.specs.declared.boxes.SourceBox.{SourceBox}
use Rattle.bounds.specs.Extents.{extent, points}
use Rattle.bounds.specs.Layout.{data_start, laid_out}
use Rattle.bounds.specs.Parts.{Part, Input as InputPart, Root, Copies, sizes_of, part_at}
use Rattle.task_code_scalar.specs.Code.{place_of, address}
use Rattle.vector_codegen_laws.specs.Places.{places_of}

module _ (pipeline : Pipeline) (schedule : Schedule) (boxes : List (Option SourceBox)) where
  -- ---- points

  -- the Func at a place is computed at root, and has a box
  pub record RootFunc (func : ℕ) : Type 0 where
    pub standing : FuncPlacement
    pub standing_is : slice_get schedule.standings func ≡ Some standing
    pub at_root : standing.place ≡ standpoints.Root
    pub own : SourceBox
    pub box_is : slice_get boxes func ≡ Some (Some own)

  pub record RootPoint (func x y : ℕ) : Type 0 where
    pub standing : FuncPlacement
    pub standing_is : slice_get schedule.standings func ≡ Some standing
    pub at_root : standing.place ≡ standpoints.Root
    pub own : SourceBox
    pub box_is : slice_get boxes func ≡ Some (Some own)
    pub column : x < extent own.x
    pub row : y < extent own.y

  pub record PrivatePoint (func x y : ℕ) : Type 0 where
    pub standing : FuncPlacement
    pub standing_is : slice_get schedule.standings func ≡ Some standing
    pub loop : LoopPosition
    pub at_loop : standing.place ≡ standpoints.At loop
    pub own : SourceBox
    pub box_is : slice_get boxes func ≡ Some (Some own)
    pub column : x < extent own.x
    pub row : y < extent own.y

  pub record InputPoint (place x y : ℕ) : Type 0 where
    pub input : Input
    pub input_is : slice_get pipeline.inputs place ≡ Some input
    pub column : x < input.width
    pub row : y < input.height

  -- ---- their bytes

  abbrev pub part : ℕ → Part
  part address = part_at (sizes_of pipeline schedule boxes) address

  -- in the memory of a hart
  abbrev pub address_at : ℕ → Source → ℕ → ℕ → ℕ
  address_at hart source x y = address (place_of (places_of pipeline schedule boxes (laid_out pipeline schedule boxes)) source) hart x y

  -- a word of the data begins at the address, and its bytes are such parts
  pub record IsWordOf (address : ℕ) (part_of : ℕ → Part) : Type 0 where
    pub aligned : address % 4 ≡ 0
    pub above : data_start ≤ address
    pub below : address + 4 ≤ data_start + (laid_out pipeline schedule boxes).size
    pub parts : (byte : ℕ) → byte < 4 → part (address + byte) ≡ part_of byte

  abbrev pub RootsAreThere : Type 0
  RootsAreThere = (hart func x y : ℕ) → (point : RootPoint func x y)
      → IsWordOf (address_at hart (sources.Func func) x y) (λ byte. Root func (4 * (y * extent point.own.x + x) + byte))

  -- a hart's own copy
  abbrev pub CopiesAreThere : Type 0
  CopiesAreThere = (hart func x y : ℕ) → hart < 8 → (point : PrivatePoint func x y)
      → IsWordOf (address_at hart (sources.Func func) x y) (λ byte. Copies func (4 * points point.own * hart + (4 * (y * extent point.own.x + x) + byte)))

  abbrev pub WordInputsAreThere : Type 0
  WordInputsAreThere = (hart place x y : ℕ) → (point : InputPoint place x y) → point.input.is_bytes ≡ false
      → IsWordOf (address_at hart (sources.Input place) x y) (λ byte. InputPart place (4 * (y * point.input.width + x) + byte))

  pub record IsByteOf (address : ℕ) (part_of : Part) : Type 0 where
    pub above : data_start ≤ address
    pub below : address + 1 ≤ data_start + (laid_out pipeline schedule boxes).size
    pub is_part : part address ≡ part_of

  abbrev pub ByteInputsAreThere : Type 0
  ByteInputsAreThere = (hart place x y : ℕ) → (point : InputPoint place x y) → point.input.is_bytes ≡ true
      → IsByteOf (address_at hart (sources.Input place) x y) (InputPart place (y * point.input.width + x))
