-- The lines of phases' words of control, of inputs, of Funcs and of frames. This project's own.
use Rattle.std.specs.Prelude.{ℕ, ◌+◌, ◌*◌, Bool, true, false, if◌then◌else◌, List, [], ◌∷◌, ◌++◌, codes, Option, Some, None, slice_get}
use Rattle.std.specs.Fmt.{decimal}
use Rattle.disassembler.specs.Listing.{hexadecimal_text}
use Rattle.halide_pipeline.specs.declared.definitions.Func.{Func}
use Rattle.halide_pipeline.specs.declared.definitions.Input.{Input}
use Rattle.schedule_lines.specs.declared.stages.Loop.{Loop}
use Rattle.schedule_lines.specs.declared.stages.LoopId.{LoopId}
use Rattle.schedule_lines.specs.Directives.{same_id}
use Rattle.schedule.specs.declared.plans.FuncPlan.{FuncPlan}
use Rattle.schedule.specs.declared.schedules.Schedule.{Schedule}
use Rattle.schedule.specs.declared.placements.LoopPosition.{LoopPosition}
use Rattle.schedule.specs.declared.placements.ComputeLevel.{ComputeLevel}
use Rattle.schedule.specs.declared.placements.ComputeLevel.TheVariants as places
use Rattle.schedule.specs.declared.placements.FuncPlacement.{FuncPlacement}
use Rattle.bounds.specs.declared.boxes.SourceBox.{SourceBox}
use Rattle.bounds.specs.declared.layout.Layout.{Layout}
use Rattle.bounds.specs.declared.verdict.Boxes.{Boxes}
use Rattle.bounds.specs.Extents.{box_in, points}
use Rattle.bounds.specs.Layout.{data_start}
use Rattle.hrv_map.specs.declared.names.SourceNames.{SourceNames}
use Rattle.hrv_map.specs.Areas.{area_text, func_area, input_area}
use Rattle.hrv_map.specs.Names.{name_at}

abbrev pub newline : List ℕ
newline = 10 ∷ []

-- ---- words of control

-- `control PHASE ticket A gate A`
unfoldable pub control_line : ℕ → List ℕ
control_line phase =
    codes "control " ++ decimal phase ++ codes " ticket " ++ hexadecimal_text 8 (data_start + 8 * phase)
    ++ codes " gate " ++ hexadecimal_text 8 (data_start + 8 * phase + 4) ++ newline

-- ---- addresses

abbrev pub or_zero : Option ℕ → ℕ
or_zero None = 0
or_zero (Some at) = at

-- the address at a place
abbrev pub address_at : List ℕ → ℕ → ℕ
address_at ats index = or_zero (slice_get ats index)

-- ---- inputs

abbrev pub kind_text : Bool → List ℕ
kind_text true = codes " bytes"
kind_text false = codes " words"

-- `input NAME words` or `input NAME bytes`, and where it lies
unfoldable pub input_line : List ℕ → ℕ → Input → List ℕ
input_line name at input =
    codes "input " ++ name ++ kind_text input.is_bytes ++ area_text (input_area at input) ++ newline

-- of the inputs from a place on, each at its address
unfoldable pub input_lines : List (List ℕ) → List ℕ → ℕ → List Input → List ℕ
input_lines names ats index [] = []
input_lines names ats index (input ∷ inputs) =
    input_line (name_at names index) (address_at ats index) input ++ input_lines names ats (index + 1) inputs

-- ---- Funcs

-- the name of a loop among those of a stage
abbrev pub loop_name : LoopId → List Loop → List ℕ
loop_name id [] = []
loop_name id (own ∷ others) = if same_id own.id id then own.name else loop_name id others

abbrev pub loop_name_in : LoopId → Option FuncPlan → List ℕ
loop_name_in id None = []
loop_name_in id (Some plan) = loop_name id plan.pure.loops

-- `func NAME root`, and where its box lies
unfoldable pub root_line : List ℕ → ℕ → SourceBox → List ℕ
root_line name at source_box = codes "func " ++ name ++ codes " root" ++ area_text (func_area at source_box) ++ newline

-- ` copies 8 distance BYTES`: there is one for each of 8 harts, each so far after the one before it
unfoldable pub copies_text : ℕ → List ℕ
copies_text distance = codes " copies 8 distance " ++ decimal distance ++ newline

-- `func NAME at CONSUMER LOOP`, where the box of hart 0 lies, and how far the others'
unfoldable pub copies_line : List ℕ → List ℕ → List ℕ → ℕ → SourceBox → List ℕ
copies_line name consumer inside at source_box =
    codes "func " ++ name ++ codes " at " ++ consumer ++ codes " " ++ inside ++ area_text (func_area at source_box) ++ copies_text (4 * points source_box)

module _ (names : List (List ℕ)) (boxes : Boxes) where
  -- of the Func at a place, if it has a box
  abbrev pub root_if : ℕ → Option SourceBox → List ℕ
  root_if place None = []
  root_if place (Some own) = root_line (name_at names place) (address_at boxes.layout.roots place) own

module _ (names : List (List ℕ)) (schedule : Schedule) (boxes : Boxes) where
  abbrev pub copies_if : ℕ → LoopPosition → Option SourceBox → List ℕ
  copies_if place at None = []
  copies_if place at (Some own) =
      copies_line (name_at names place) (name_at names at.func) (loop_name_in at.inside (slice_get schedule.funcs at.func)) (address_at boxes.layout.privates
      place) own

  -- by where it is computed, and the box of one iteration; nothing where it is inlined
  abbrev pub func_line_by : ℕ → ComputeLevel → Option SourceBox → List ℕ
  func_line_by place places.Root own = root_if names boxes place own
  func_line_by place (places.At at) own = copies_if place at own
  func_line_by place places.Inlined own = []
  func_line_by place places.Nowhere own = []

  abbrev pub func_line_if : ℕ → Option FuncPlacement → List ℕ
  func_line_if place None = []
  func_line_if place (Some standing) = func_line_by place standing.place (box_in (slice_get boxes.funcs place))

  -- of the Func at a place
  unfoldable pub func_line : ℕ → List ℕ
  func_line place = func_line_if place (slice_get schedule.standings place)

  -- of the Funcs from a place on
  unfoldable pub func_lines : ℕ → List Func → List ℕ
  func_lines place [] = []
  func_lines place (func ∷ funcs) = func_line place ++ func_lines (place + 1) funcs

-- ---- frames

-- `frames address A copies 8 distance 4096`, where there are any: a frame for each of 8 harts, in which values of deep expressions wait
unfoldable pub frames_line : Layout → List ℕ
frames_line layout =
    if layout.has_frames then codes "frames address " ++ hexadecimal_text 8 layout.frames ++ copies_text 4096 else []
