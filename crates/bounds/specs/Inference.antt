-- The boxes of all sources, from the output back: what is read of a Func depends on the Funcs after it alone.
--
-- Where some box leaves -2^24 to 2^24 there are no boxes.
-- This project's own.
use Rattle.std.specs.Prelude.{◌≡◌, ℕ, ◌+◌, ◌-◌, ◌==◌, Bool, true, not, if◌then◌else◌, List, [], ◌∷◌, length, slice_get, Option, Some, None, suc, ◌^◌, false}
use Rattle.std.specs.Prelude.{◌++◌}
use Rattle.halide_pipeline.specs.declared.definitions.Func.{Func}
use Rattle.halide_pipeline.specs.declared.definitions.Input.{Input}
use Rattle.halide_pipeline.specs.declared.definitions.Output.{Output}
use Rattle.halide_pipeline.specs.declared.definitions.Update.{Update}
use Rattle.halide_pipeline.specs.declared.expressions.Source.{Source}
use Rattle.halide_pipeline.specs.declared.expressions.Source.TheVariants as sources
use Rattle.halide_pipeline.specs.WellFormed.{is_first_in_place, is_second_in_place}
use Rattle.halide_pipeline.specs.Pipelines.{Pipeline}
use Rattle.halide_pipeline.specs.declared.definitions.Reduction.{Reduction}
use Rattle.halide_pipeline.specs.declared.expressions.Expr.{Expr}
use Rattle.schedule.specs.declared.plans.FuncPlan.{FuncPlan}
use Rattle.schedule.specs.declared.schedules.Schedule.{Schedule}
use Rattle.schedule.specs.declared.placements.LoopPosition.{LoopPosition}
use Rattle.schedule.specs.declared.placements.ComputeLevel.{ComputeLevel}
use Rattle.schedule.specs.declared.placements.ComputeLevel.TheVariants as places
use Rattle.schedule.specs.declared.placements.FuncPlacement.{FuncPlacement}
use Rattle.bounds_ranges.specs.declared.ranges.Range.{Range}
use Rattle.bounds_ranges.specs.Ranges.{no_base, fit, literal}
use Rattle.bounds_ranges.specs.Numbers.{origin, spot}
use Rattle.bounds_ranges.specs.declared.expressions.ReadRange.{ReadRange}
use Rattle.bounds_ranges.specs.declared.expressions.OwnCalls.{OwnCalls}
use Rattle.bounds_ranges.specs.declared.expressions.Variables.{Variables}
use Rattle.bounds_ranges.specs.Expressions.{Ranged, walked, walked_update}
use Rattle.bounds.specs.declared.boxes.ConsumerLoop.{ConsumerLoop}
use Rattle.bounds.specs.declared.boxes.SourceBox.{SourceBox}
use Rattle.bounds.specs.declared.boxes.Spread.{Spread}
use Rattle.bounds.specs.Boxes.{no_loops, lasts_of, gathered, no_spread, spread_box, in_front}
use Rattle.bounds.specs.Views.{consumer_loop, view_of}

-- ---- variables

-- a reduction variable has its values one after the other, from the least
abbrev pub reduction_range : List ℕ → Reduction → Range
reduction_range lasts reduction = fit lasts no_base (record { low = spot reduction.minimum; high = spot reduction.minimum + (reduction.extent - 1) })

abbrev pub second_range : List ℕ → Option Reduction → Range
second_range lasts None = literal lasts 0
second_range lasts (Some own) = reduction_range lasts own

-- those of a pure definition, whose arguments lie in this box
abbrev pub pure_variables : SourceBox → Variables
pure_variables view = record {
  first_argument = view.x;
  second_argument = view.y;
  first_reduction = literal view.lasts 0;
  second_reduction = literal view.lasts 0;
}

abbrev pub update_variables : SourceBox → Update → Variables
update_variables view update = record {
  first_argument = view.x;
  second_argument = view.y;
  first_reduction = reduction_range view.lasts update.first;
  second_reduction = second_range view.lasts update.second;
}

abbrev pub own_calls : ℕ → Update → OwnCalls
own_calls func_index update = record { func = func_index; first_in_place = is_first_in_place update; second_in_place = is_second_in_place update }

module _ (inputs : List Input) (funcs : List Func) (flags : List Bool) (func_index : ℕ) (view : SourceBox) where
  -- ---- an update: its left indexes, in which arguments out of place may be anywhere, and its right side. The left side is a read
  -- of the own Func at its indexes.

  unfoldable pub left : Update → Expr → Ranged
  left update index = walked_update view.lasts inputs flags funcs func_index (own_calls func_index update) true (update_variables view update) index

  abbrev pub second_left : Update → Option Expr → Ranged
  second_left update None = record { range = literal view.lasts 0; asked = [] }
  second_left update (Some index) = left update index

  unfoldable pub right : Update → Ranged
  right update = walked_update view.lasts inputs flags funcs (suc func_index) (own_calls func_index update) false (update_variables view update) update.right

  abbrev pub left_read : Update → ReadRange
  left_read update = record { source = sources.Func func_index; x = (left update update.left_x).range; y = (second_left update update.left_y).range }

  unfoldable pub update_asked : Update → List ReadRange
  update_asked update =
      (left update update.left_x).asked ++ ((second_left update update.left_y).asked ++ (left_read update ∷ (right update).asked))

  abbrev pub updates_asked : List Update → List ReadRange
  updates_asked [] = []
  updates_asked (update ∷ others) = update_asked update ++ updates_asked others

  -- ---- all of the Func at this place
  unfoldable pub func_asked : Func → List ReadRange
  func_asked func = (walked view.lasts inputs flags funcs func_index (pure_variables view) func.pure).asked ++ updates_asked func.updates

-- ---- what a Func reads of itself out of place doesn't depend on its box: its arguments may be anywhere

abbrev pub anywhere : Range
anywhere = fit no_loops no_base (record { low = origin - 2 ^ 24; high = origin + 2 ^ 24 })

abbrev pub unplaced : SourceBox
unplaced = record { x = anywhere; y = anywhere; lasts = no_loops }

-- ---- the output's picture is wanted: this many pixels from 0 on

abbrev pub pixels_range : List ℕ → ℕ → Range
pixels_range lasts count = fit lasts no_base (record { low = origin; high = origin + (count - 1) })

abbrev pub wanted : Output → ℕ → Option ConsumerLoop → Spread
wanted output at consumer =
    if at == output.func then record { x = Some (pixels_range (lasts_of consumer) output.width); y = Some (pixels_range (lasts_of consumer) output.height) }
    else no_spread

-- ---- the loop at which a Func is computed

-- the box of the Func at a place, among those from another place on
abbrev pub box_at : ℕ → ℕ → List (Option SourceBox) → Option SourceBox
box_at func_index at [] = None
box_at func_index at (first ∷ others) = if at == func_index then first else box_at func_index (at + 1) others

abbrev pub consumer_of : LoopPosition → Option FuncPlan → Option SourceBox → Option ConsumerLoop
consumer_of position None source_box = None
consumer_of position (Some plan) None = None
consumer_of position (Some plan) (Some source_box) = Some (consumer_loop plan source_box position.inside)

-- ---- what a Func with updates reads of itself: its left indexes and its own calls, where they don't stand in place

module _ (pipeline : Pipeline) (flags : List Bool) where
  unfoldable pub own_update : ℕ → Option ConsumerLoop → Spread → Update → Spread
  own_update at consumer spread update =
      gathered consumer no_loops (sources.Func at) (not (is_first_in_place update)) (not (is_second_in_place update)) spread
      (update_asked pipeline.inputs pipeline.funcs flags at unplaced update)

  abbrev pub own_updates : ℕ → Option ConsumerLoop → Spread → List Update → Spread
  own_updates at consumer spread [] = spread
  own_updates at consumer spread (update ∷ others) = own_updates at consumer (own_update at consumer spread update) others

  -- with what a Func reads of a source, whose arguments lie in this box
  unfoldable pub read_in : ℕ → SourceBox → Option ConsumerLoop → Source → Spread → Func → Spread
  read_in at view consumer source spread func =
      gathered consumer view.lasts source true true spread (func_asked pipeline.inputs pipeline.funcs flags at view func)

  abbrev pub read_of : ℕ → SourceBox → Option ConsumerLoop → Source → Spread → Option Func → Spread
  read_of at view consumer source spread None = spread
  read_of at view consumer source spread (Some func) = read_in at view consumer source spread func

-- ---- all that read a source

module _ (pipeline : Pipeline) (schedule : Schedule) (flags : List Bool) where
  -- with what the Func at a place reads of the source
  abbrev pub read_by : ℕ → SourceBox → Option ConsumerLoop → Source → Spread → Spread
  read_by at own consumer source spread =
      read_of pipeline flags at (view_of (slice_get schedule.funcs at) (slice_get schedule.standings at) own consumer) consumer source spread
      (slice_get pipeline.funcs at)

  abbrev pub read_by_box : ℕ → Option SourceBox → Option ConsumerLoop → Source → Spread → Spread
  read_by_box at None consumer source spread = spread
  read_by_box at (Some own) consumer source spread = read_by at own consumer source spread

  -- with what the Funcs from a place on read of it, which have these boxes
  abbrev pub read_from : ℕ → Option ConsumerLoop → Source → List (Option SourceBox) → Spread → Spread
  read_from at consumer source [] spread = spread
  read_from at consumer source (first ∷ others) spread = read_from (at + 1) consumer source others (read_by_box at first consumer source spread)

  -- ---- the box of a Func

  abbrev pub computed_box : ℕ → Func → List (Option SourceBox) → Option ConsumerLoop → Option SourceBox
  computed_box at func behind consumer =
      spread_box consumer
      (read_from (at + 1) consumer (sources.Func at) behind (own_updates pipeline flags at consumer (wanted pipeline.output at consumer) func.updates))

  -- A Func that is inlined or computed nowhere has no box.
  abbrev pub placed_box : ℕ → Func → List (Option SourceBox) → ComputeLevel → Option SourceBox
  placed_box at func behind places.Root = computed_box at func behind None
  placed_box at func behind (places.At place) = computed_box at func behind (consumer_of place (slice_get schedule.funcs place.func) (box_at place.func (at
      + 1) behind))
  placed_box at func behind places.Inlined = None
  placed_box at func behind places.Nowhere = None

  -- Nor has one that the output doesn't reach.
  abbrev pub func_box : ℕ → Func → List (Option SourceBox) → Option FuncPlacement → Option SourceBox
  func_box at func behind None = None
  func_box at func behind (Some own) = if own.is_reached then placed_box at func behind own.place else None

  abbrev pub with_func : ℕ → Func → Option (List (Option SourceBox)) → Option (List (Option SourceBox))
  with_func at func None = None
  with_func at func (Some behind) = in_front (func_box at func behind (slice_get schedule.standings at)) behind

  -- of the Funcs from a place on
  abbrev pub boxes_from : ℕ → List Func → Option (List (Option SourceBox))
  boxes_from at [] = Some []
  boxes_from at (func ∷ others) = with_func at func (boxes_from (at + 1) others)

  -- ---- inputs

  abbrev pub input_box : List (Option SourceBox) → ℕ → Option SourceBox
  input_box boxes place = spread_box None (read_from 0 None (sources.Input place) boxes no_spread)

  abbrev pub with_input : List (Option SourceBox) → ℕ → Option (List (Option SourceBox)) → Option (List (Option SourceBox))
  with_input boxes place None = None
  with_input boxes place (Some behind) = in_front (input_box boxes place) behind

  -- of the inputs from a place on
  abbrev pub inputs_from : List (Option SourceBox) → ℕ → List Input → Option (List (Option SourceBox))
  inputs_from boxes place [] = Some []
  inputs_from boxes place (input ∷ others) = with_input boxes place (inputs_from boxes (place + 1) others)

-- ---- there are this many boxes

abbrev pub HasCount : ℕ → Option (List (Option SourceBox)) → Type 0
HasCount count None = Unit {0}
HasCount count (Some boxes) = length boxes ≡ count
