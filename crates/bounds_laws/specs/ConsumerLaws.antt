-- Where loops of a consumer take arguments.
--
-- The consumer of a Func that is computed at a loop is the Func whose loop it is. While this loop and those outside of it are in given
-- iterations, those inside take all their values.
-- This project's own.
use Rattle.std.specs.Prelude.{◌≡◌, ◌<◌, ℕ, zero, suc, ◌+◌, ◌^◌, nat_lt, true, not, if◌then◌else◌, List, [], ◌∷◌, ◌++◌, take, drop, length, slice_get, Option}
use Rattle.std.specs.Prelude.{Some, None, Ok}
use Rattle.std.specs.List.{AllByRecursion, Contains}
use Rattle.halide_pipeline.specs.declared.definitions.Func.{Func}
use Rattle.halide_pipeline.specs.declared.definitions.Update.{Update}
use Rattle.halide_pipeline.specs.declared.expressions.Source.TheVariants as sources
use Rattle.halide_pipeline.specs.declared.expressions.Variable.{Variable}
use Rattle.halide_pipeline.specs.declared.expressions.Variable.TheVariants as variables
use Rattle.halide_pipeline.specs.WellFormed.{is_first_in_place, is_second_in_place, IsWellFormed}
use Rattle.halide_pipeline.specs.Pipelines.{Pipeline}
use Rattle.halide_pipeline.specs.Pixel.{Reads, points}
use Rattle.halide_pipeline.specs.Points.{Point}
use Rattle.schedule_lines.specs.declared.stages.Loop.{Loop}
use Rattle.schedule_lines.specs.declared.stages.LoopId.{LoopId}
use Rattle.schedule_lines.specs.declared.stages.LoopId.TheVariants as ids
use Rattle.schedule.specs.declared.plans.FuncPlan.{FuncPlan}
use Rattle.schedule.specs.declared.schedules.Schedule.{Schedule}
use Rattle.schedule.specs.declared.placements.LoopPosition.{LoopPosition}
use Rattle.schedule.specs.declared.placements.ComputeLevel.{ComputeLevel}
use Rattle.schedule.specs.declared.placements.ComputeLevel.TheVariants as places
use Rattle.schedule.specs.declared.placements.FuncPlacement.{FuncPlacement}
use Rattle.schedule.specs.Accepted.{IsAccepted}
use Rattle.schedule.specs.Uses.{StandsWithin}
use Rattle.schedule_loops.specs.declared.extents.Extents.{Extents}
use Rattle.schedule_loops.specs.Visits.{Values, counts, Visit}
use Rattle.schedule_loops.specs.Reach.{wholes}
use Rattle.schedule_loops.specs.Runs.{AreIterations}
use Rattle.schedule_loops.specs.Stages.{IsStageOf, IsVisitOf, first_loops, has_variable}
use Rattle.bounds_ranges.specs.declared.ranges.Range.{Range}
use Rattle.bounds_ranges.specs.Ranges.{more_sum, less_sum}
use Rattle.bounds_ranges.specs.Laws.{Below, Lies, AnswerWords}
use Rattle.bounds_ranges.specs.Numbers.{spot}
use Rattle.bounds.specs.declared.boxes.ConsumerLoop.{ConsumerLoop}
use Rattle.bounds.specs.declared.boxes.SourceBox.{SourceBox}
use Rattle.bounds.specs.declared.verdict.Boxes.{Boxes}
use Rattle.bounds.specs.Boxes.{lasts_of, IsBox, same_source}
use Rattle.bounds.specs.Extents.{extent, extents_of}
use Rattle.bounds_laws.specs.Laws.{LiesIn, AreBoxed, LiesPartly, values_for, consumer_in, IsComputed, pure_points, update_points, IsNear, IsPartlyBoxed}
use Rattle.bounds.specs.Verdict.{inferred}
use Rattle.bounds.specs.Views.{inner_count, consumer_loop, consumer_view, settled, settled_box, view_of}

-- ---- iterations of the loops of a stage, innermost first

-- of one loop; 0 where none is there
abbrev pub iteration_of : Values → Option Loop → ℕ
iteration_of iterations None = 0
iteration_of iterations (Some own) = iterations own.id

abbrev pub iteration_at : ℕ → Values → List Loop → ℕ → ℕ
iteration_at inner iterations loops at = if nat_lt at inner then 0 else iteration_of iterations (slice_get loops at)

-- Those of the loop with this many inside it and of all outside of it; the loops inside, which have no iteration yet, count as in their first.
abbrev pub iterations_from : ℕ → Values → List Loop → List ℕ
iterations_from inner iterations loops =
    iteration_at inner iterations loops 0 ∷ iteration_at inner iterations loops 1 ∷ iteration_at inner iterations loops 2 ∷ iteration_at inner iterations loops 3
    ∷ iteration_at inner iterations loops 4 ∷ []

-- ---- the consumer's arguments

-- how far a value takes an argument from its least number; not at all, where the Func has no such argument
abbrev pub gone : Func → Variable → Values → ℕ
gone func variable whole = if has_variable variable (first_loops func None) then whole (ids.Whole variable) else 0

-- The word is this far from the least number of a range.
pub record IsGone (range : Range) (far x : ℕ) : Type 0 where
  pub word : x < 2 ^ 32
  pub is : spot x ≡ range.low + far

-- These values of a Func's arguments take it to this point of its box.
pub record IsTakenTo (func : Func) (source_box : SourceBox) (whole : Values) (x y : ℕ) : Type 0 where
  pub first : IsGone source_box.x (gone func variables.FirstArgument whole) x
  pub second : IsGone source_box.y (gone func variables.SecondArgument whole) y

-- While a loop of a pure definition and those outside of it are in given iterations, each point to which those inside take the arguments lies in
-- the view of them that is asked with, under these iterations.
abbrev pub ConsumerArgumentsLie : Type 0
ConsumerArgumentsLie = (func : Func) (plan : FuncPlan) (source_box : SourceBox) (id : LoopId) (inside outside : List Loop) (iterations : Values)
    → IsStageOf func None plan.pure → plan.pure.loops ≡ inside ++ outside → length inside ≡ inner_count id plan.pure.loops
    → AreIterations (counts (extents_of source_box) plan.pure.splits) outside iterations
    → Below (iterations_from (length inside) iterations plan.pure.loops) (consumer_loop plan source_box id).lasts
    × AllByRecursion
    (λ whole. (x y : ℕ) → IsTakenTo func source_box whole x y
    → LiesIn (iterations_from (length inside) iterations plan.pure.loops) (consumer_view plan.pure source_box (consumer_loop plan source_box id)) x y)
    (wholes (extents_of source_box) plan.pure.splits inside iterations)

-- ---- points of a box at a loop

-- Values of loops agree from the loop with this many inside it outward.
abbrev pub AgreeFrom : ℕ → List ℕ → List ℕ → Type 0
AgreeFrom inner [] [] = Unit {0}
AgreeFrom inner [] (w ∷ others) = ⊥
AgreeFrom inner (v ∷ values) [] = ⊥
AgreeFrom zero (v ∷ values) (w ∷ others) = (v ≡ w) × AgreeFrom zero values others
AgreeFrom (suc inner) (v ∷ values) (w ∷ others) = AgreeFrom inner values others

-- What lies in a range lies in the one where loops inside take all their values, whatever values these have.
abbrev pub SettledRangesHold : Type 0
SettledRangesHold = (inner : ℕ) (lasts values others : List ℕ) → Below values lasts → AgreeFrom inner values others
    → (range : Range) (x : ℕ) → Lies lasts values range x → Lies lasts others (settled inner lasts range) x

-- So do points of a box.
abbrev pub SettledBoxesHold : Type 0
SettledBoxesHold = (inner : ℕ) (source_box : SourceBox) (values others : List ℕ) → Below values source_box.lasts → AgreeFrom inner values others
    → (x y : ℕ) → LiesIn values source_box x y → LiesIn others (settled_box inner source_box) x y

-- ---- what updates read of their own Func

-- Whatever values the loops of its consumer have, what an update of a Func that is computed reads of its own Func, the point that its left side
-- names among it, lies in the Func's box in each dimension that isn't in place.
abbrev pub ProducedOwnReadsLie : Type 0
ProducedOwnReadsLie = (pipeline : Pipeline) (schedule : Schedule) (boxes : Boxes) → IsWellFormed pipeline → inferred pipeline schedule ≡ Ok boxes
    → (reader : ℕ) (func : Func) (sought : FuncPlacement) → slice_get pipeline.funcs reader ≡ Some func
    → slice_get schedule.standings reader ≡ Some sought → sought.is_reached ≡ true → IsComputed reader sought.place
    → (consumer : Option ConsumerLoop) → consumer_in schedule boxes.funcs sought.place ≡ consumer
    → (values : List ℕ) → Below (values_for consumer values) (lasts_of consumer)
    → (at : ℕ) (update : Update) → slice_get func.updates at ≡ Some update
    → (reads : Reads) → AnswerWords pipeline.inputs reads
    → (x y : ℕ) → x < 2 ^ 32 → y < 2 ^ 32 → IsNear x → IsNear y → (number : ℕ) → number < points update
    → AllByRecursion
    (λ point. same_source point.source (sources.Func reader) ≡ true
    → IsPartlyBoxed (values_for consumer values) (slice_get boxes.funcs reader) (not (is_first_in_place update)) (not (is_second_in_place update))
    point.x point.y)
    (update_points pipeline schedule reads reader update number x y)

-- The point has the arguments that stand in place for its coordinates.
pub record IsInPlace (update : Update) (x y : ℕ) (point : Point) : Type 0 where
  pub first : is_first_in_place update ≡ true → point.x ≡ x
  pub second : is_second_in_place update ≡ true → point.y ≡ y

-- In each dimension in place an update reads its own Func at the argument itself, and its left side names the argument itself.
abbrev pub OwnReadsStay : Type 0
OwnReadsStay = (pipeline : Pipeline) (schedule : Schedule) → IsWellFormed pipeline
    → (reader : ℕ) (func : Func) → slice_get pipeline.funcs reader ≡ Some func → (at : ℕ) (update : Update) → slice_get func.updates at ≡ Some update
    → (reads : Reads) (number x y : ℕ)
    → AllByRecursion (λ point. same_source point.source (sources.Func reader) ≡ true → IsInPlace update x y point)
    (update_points pipeline schedule reads reader update number x y)

-- So all that an update reads of its own Func lies in the Func's box, and the point that its left side names, where the arguments in place do.
abbrev pub OwnPointsLie : Type 0
OwnPointsLie = (pipeline : Pipeline) (schedule : Schedule) (boxes : Boxes) → IsWellFormed pipeline → inferred pipeline schedule ≡ Ok boxes
    → (reader : ℕ) (func : Func) (sought : FuncPlacement) → slice_get pipeline.funcs reader ≡ Some func
    → slice_get schedule.standings reader ≡ Some sought → sought.is_reached ≡ true → IsComputed reader sought.place
    → (consumer : Option ConsumerLoop) → consumer_in schedule boxes.funcs sought.place ≡ consumer
    → (values : List ℕ) → Below (values_for consumer values) (lasts_of consumer)
    → (source_box : SourceBox) → slice_get boxes.funcs reader ≡ Some (Some source_box)
    → (at : ℕ) (update : Update) → slice_get func.updates at ≡ Some update
    → (reads : Reads) → AnswerWords pipeline.inputs reads
    → (x y : ℕ) → x < 2 ^ 32 → y < 2 ^ 32 → IsNear x → IsNear y → (number : ℕ) → number < points update
    → LiesPartly (values_for consumer values) source_box (is_first_in_place update) (is_second_in_place update) x y
    → AreBoxed (values_for consumer values) (sources.Func reader) (Some (Some source_box)) (update_points pipeline schedule reads reader update number x y)

-- ---- boxes, and what stages visit of them

-- The box of a Func that is computed has two ends in each dimension, stays within -2^24 to 2^24, and is over the loops of the Func's consumer.
pub record IsProduced (consumer : Option ConsumerLoop) (source_box : SourceBox) : Type 0 where
  pub box : IsBox source_box
  pub lasts : source_box.lasts ≡ lasts_of consumer

abbrev pub BoxesAreProduced : Type 0
BoxesAreProduced = (pipeline : Pipeline) (schedule : Schedule) (boxes : Boxes) → inferred pipeline schedule ≡ Ok boxes
    → (func_index : ℕ) (sought : FuncPlacement) → slice_get schedule.standings func_index ≡ Some sought → sought.is_reached ≡ true → IsComputed func_index sought.place
    → (source_box : SourceBox) → slice_get boxes.funcs func_index ≡ Some (Some source_box) → IsProduced (consumer_in schedule boxes.funcs sought.place) source_box

-- A point of a box is near.
abbrev pub PointsAreNear : Type 0
PointsAreNear = (source_box : SourceBox) → IsBox source_box → (values : List ℕ) → Below values source_box.lasts → (x y : ℕ) → LiesIn values source_box x y → IsNear x × IsNear y

-- While loops have these values, the word is this far from the least number of a range.
pub record IsFrom (values : List ℕ) (range : Range) (far x : ℕ) : Type 0 where
  pub word : x < 2 ^ 32
  pub is : spot x + less_sum range.base values ≡ range.low + more_sum range.base values + far

-- In whatever iteration, what a stage of a Func visits of the Func's box, from the box's corner on, lies in the box.
abbrev pub VisitsLie : Type 0
VisitsLie = (func : Func) (update : Option Update) (source_box : SourceBox) → IsBox source_box → (values : List ℕ) → Below values source_box.lasts
    → (extents : Extents) → extents.first_argument ≡ extent source_box.x → extents.second_argument ≡ extent source_box.y
    → (visit : Visit) → IsVisitOf func update extents visit
    → (x y : ℕ) → IsFrom values source_box.x visit.x x → IsFrom values source_box.y visit.y y
    → LiesIn values source_box x y

-- ---- arguments, wherever loops take them

-- The loop and those outside of it are each in one of their iterations.
abbrev pub AreIterationsFrom : FuncPlan → SourceBox → LoopId → Values → Type 0
AreIterationsFrom plan source_box id iterations = AreIterations (counts (extents_of source_box) plan.pure.splits) (drop (inner_count id plan.pure.loops) plan.pure.loops) iterations

-- the values that bases take in these iterations
abbrev pub values_in : FuncPlan → LoopId → Values → List ℕ
values_in plan id iterations = iterations_from (inner_count id plan.pure.loops) iterations plan.pure.loops

-- The loops inside take the consumer's arguments to this point.
pub record IsReachedIn (func : Func) (plan : FuncPlan) (source_box : SourceBox) (id : LoopId) (iterations : Values) (x y : ℕ) : Type 0 where
  pub iterations_are : AreIterationsFrom plan source_box id iterations
  pub whole : Values
  pub visited : Contains (wholes (extents_of source_box) plan.pure.splits (take (inner_count id plan.pure.loops) plan.pure.loops) iterations) whole
  pub taken : IsTakenTo func source_box whole x y

-- While loops of a consumer are in these iterations, the point may be the arguments of a Func with this place: of the consumer itself, where the loops
-- inside take them to it; of a Func that is computed at a loop of the consumer, where it lies in that one's box.
abbrev pub MayBeArguments : Func → FuncPlan → SourceBox → LoopId → Values → ComputeLevel → SourceBox → ℕ → ℕ → Type 0
MayBeArguments func plan consuming id iterations places.Root source_box x y = IsReachedIn func plan consuming id
    iterations x y
MayBeArguments func plan consuming id iterations (places.At at) source_box x y =
    AreIterationsFrom plan consuming at.inside iterations × LiesIn (values_in plan at.inside iterations) source_box x y
MayBeArguments func plan consuming id iterations places.Inlined source_box x y = ⊥
MayBeArguments func plan consuming id iterations places.Nowhere source_box x y = ⊥

-- The values are those of loops, and the point lies in the view.
pub record IsSeenIn (values : List ℕ) (consumer : Option ConsumerLoop) (view : SourceBox) (x y : ℕ) : Type 0 where
  pub produced : Below values (lasts_of consumer)
  pub below : Below values view.lasts
  pub lies : LiesIn values view x y

-- Wherever loops take the arguments of a Func that makes its reads within the loop at which another one is computed, they lie in the view of
-- them with which that other one is asked, while the loops of the consumer from that one outward have the same iterations.
abbrev pub ArgumentsLieInViews : Type 0
ArgumentsLieInViews = (pipeline : Pipeline) (schedule : Schedule) (boxes : Boxes) → IsAccepted pipeline schedule → inferred pipeline schedule ≡ Ok boxes
    → (func_index : ℕ) (sought : FuncPlacement) (at : LoopPosition) → slice_get schedule.standings func_index ≡ Some sought → sought.is_reached ≡ true → sought.place
    ≡ places.At at
    → (func : Func) (plan : FuncPlan) (consuming : SourceBox)
    → slice_get pipeline.funcs at.func ≡ Some func → slice_get schedule.funcs at.func ≡ Some plan → slice_get boxes.funcs at.func ≡ Some (Some consuming)
    → (reader : ℕ) (its : FuncPlacement) (source_box : SourceBox) → slice_get schedule.standings reader ≡ Some its → its.is_reached ≡ true
    → slice_get boxes.funcs reader ≡ Some (Some source_box)
    → StandsWithin pipeline schedule.funcs schedule.standings at reader
    → (iterations : Values) (x y : ℕ) → MayBeArguments func plan consuming at.inside iterations its.place source_box x y
    → IsSeenIn (values_in plan at.inside iterations) (consumer_in schedule boxes.funcs sought.place)
    (view_of (slice_get schedule.funcs reader) (slice_get schedule.standings reader) source_box (consumer_in schedule boxes.funcs sought.place)) x y

-- So all that its pure definition reads there of that other one lies in the box of that one.
abbrev pub PureReadsInLoopsLie : Type 0
PureReadsInLoopsLie = (pipeline : Pipeline) (schedule : Schedule) (boxes : Boxes) → IsWellFormed pipeline → IsAccepted pipeline schedule
    → inferred pipeline schedule ≡ Ok boxes
    → (func_index : ℕ) (sought : FuncPlacement) (at : LoopPosition) → slice_get schedule.standings func_index ≡ Some sought → sought.is_reached ≡ true → sought.place
    ≡ places.At at
    → (func : Func) (plan : FuncPlan) (consuming : SourceBox)
    → slice_get pipeline.funcs at.func ≡ Some func → slice_get schedule.funcs at.func ≡ Some plan → slice_get boxes.funcs at.func ≡ Some (Some consuming)
    → (reader : ℕ) (reading : Func) (its : FuncPlacement) (source_box : SourceBox) → func_index < reader
    → slice_get pipeline.funcs reader ≡ Some reading → slice_get schedule.standings reader ≡ Some its → its.is_reached ≡ true → slice_get boxes.funcs reader
    ≡ Some (Some source_box)
    → (reads : Reads) → AnswerWords pipeline.inputs reads
    → (iterations : Values) (x y : ℕ) → MayBeArguments func plan consuming at.inside iterations its.place source_box x y
    → AreBoxed (values_in plan at.inside iterations) (sources.Func func_index) (slice_get boxes.funcs func_index) (pure_points pipeline schedule reads reader reading x y)

-- And all that its updates read of it.
abbrev pub UpdateReadsInLoopsLie : Type 0
UpdateReadsInLoopsLie = (pipeline : Pipeline) (schedule : Schedule) (boxes : Boxes) → IsWellFormed pipeline → IsAccepted pipeline schedule
    → inferred pipeline schedule ≡ Ok boxes
    → (func_index : ℕ) (sought : FuncPlacement) (at : LoopPosition) → slice_get schedule.standings func_index ≡ Some sought → sought.is_reached ≡ true → sought.place
    ≡ places.At at
    → (func : Func) (plan : FuncPlan) (consuming : SourceBox)
    → slice_get pipeline.funcs at.func ≡ Some func → slice_get schedule.funcs at.func ≡ Some plan → slice_get boxes.funcs at.func ≡ Some (Some consuming)
    → (reader : ℕ) (reading : Func) (its : FuncPlacement) (source_box : SourceBox) → func_index < reader
    → slice_get pipeline.funcs reader ≡ Some reading → slice_get schedule.standings reader ≡ Some its → its.is_reached ≡ true → slice_get boxes.funcs reader
    ≡ Some (Some source_box)
    → (number_at : ℕ) (update : Update) → slice_get reading.updates number_at ≡ Some update
    → (reads : Reads) → AnswerWords pipeline.inputs reads
    → (iterations : Values) (x y : ℕ) → MayBeArguments func plan consuming at.inside iterations its.place source_box x y → IsNear x → IsNear y
    → (number : ℕ) → number < points update
    → AreBoxed (values_in plan at.inside iterations) (sources.Func func_index) (slice_get boxes.funcs func_index) (update_points pipeline schedule reads reader update number x
    y)
