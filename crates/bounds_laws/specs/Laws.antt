-- Boxes hold what is read.
-- This project's own.
use Rattle.std.specs.Prelude.{◌≡◌, ◌<◌, ◌≤◌, ℕ, suc, ◌+◌, ◌-◌, ◌^◌, Bool, true, not, List, [], ◌∷◌, ◌++◌, Option, Some, None, slice_get, Ok}
use Rattle.std.specs.List.{AllByRecursion}
use Rattle.halide_pipeline.specs.declared.definitions.Func.{Func}
use Rattle.halide_pipeline.specs.declared.definitions.Update.{Update}
use Rattle.halide_pipeline.specs.declared.expressions.Expr.{Expr}
use Rattle.halide_pipeline.specs.declared.expressions.Source.{Source}
use Rattle.halide_pipeline.specs.declared.expressions.Source.TheVariants as sources
use Rattle.halide_pipeline.specs.WellFormed.{is_first_in_place, is_second_in_place, IsWellFormed}
use Rattle.halide_pipeline.specs.Pipelines.{Pipeline}
use Rattle.halide_pipeline.specs.declared.environments.Environment.{Environment}
use Rattle.halide_pipeline.specs.Pixel.{Reads, at_point, at_reduction, points}
use Rattle.halide_pipeline.specs.Points.{Point, Seen}
use Rattle.schedule.specs.declared.schedules.Schedule.{Schedule}
use Rattle.schedule.specs.declared.placements.ComputeLevel.{ComputeLevel}
use Rattle.schedule.specs.declared.placements.ComputeLevel.TheVariants as places
use Rattle.schedule.specs.declared.placements.FuncPlacement.{FuncPlacement}
use Rattle.bounds_inlining.specs.Inlining.{inlined, flagged}
use Rattle.bounds_inlining.specs.Laws.{seen_variable}
use Rattle.bounds_inlining.specs.Values.{seeing}
use Rattle.bounds_ranges.specs.Laws.{Below, Lies, AnswerWords}
use Rattle.bounds_ranges.specs.Numbers.{origin, spot}
use Rattle.bounds_weights.specs.Weight.{flags_of}
use Rattle.bounds.specs.declared.boxes.ConsumerLoop.{ConsumerLoop}
use Rattle.bounds.specs.declared.boxes.SourceBox.{SourceBox}
use Rattle.bounds.specs.declared.verdict.Boxes.{Boxes}
use Rattle.bounds.specs.Boxes.{no_loops, lasts_of, same_source}
use Rattle.bounds.specs.Extents.{box_in}
use Rattle.bounds.specs.Inference.{consumer_of}
use Rattle.bounds.specs.Verdict.{inferred}
use Rattle.bounds.specs.Views.{view_of}

-- While loops have these values, the point lies in the box.
pub record LiesIn (values : List ℕ) (source_box : SourceBox) (x y : ℕ) : Type 0 where
  pub first : Lies source_box.lasts values source_box.x x
  pub second : Lies source_box.lasts values source_box.y y

-- the values of the consumer's loops, where there is a consumer
abbrev pub values_for : Option ConsumerLoop → List ℕ → List ℕ
values_for None values = no_loops
values_for (Some consumer) values = values

-- There is a box, and the point lies in it; nothing is said where there is no such source.
abbrev pub IsBoxed : List ℕ → Option (Option SourceBox) → ℕ → ℕ → Type 0
IsBoxed values None x y = Unit {0}
IsBoxed values (Some None) x y = ⊥
IsBoxed values (Some (Some own)) x y = LiesIn values own x y

-- Of these points those of the source lie in its box.
abbrev pub AreBoxed : List ℕ → Source → Option (Option SourceBox) → List Point → Type 0
AreBoxed values source own points = AllByRecursion (λ point. same_source point.source source ≡ true → IsBoxed values own point.x point.y) points

-- what a pure definition reads through its inlined Funcs, while its arguments are these
abbrev pub pure_points : Pipeline → Schedule → Reads → ℕ → Func → ℕ → ℕ → List Point
pure_points pipeline schedule reads reader func x y =
    (inlined (seeing reads) (flagged (flags_of schedule.standings)) pipeline.funcs reader (seen_variable (at_point x y)) func.pure).points

-- Wherever loops take a point of a Func's box, all that its pure definition reads there of inputs lies in their boxes.
abbrev pub PureReadsOfInputsLie : Type 0
PureReadsOfInputsLie = (pipeline : Pipeline) (schedule : Schedule) (boxes : Boxes) → IsWellFormed pipeline → inferred pipeline schedule ≡ Ok boxes
    → (reader : ℕ) (func : Func) (source_box : SourceBox) → slice_get pipeline.funcs reader ≡ Some func → slice_get boxes.funcs reader ≡ Some (Some source_box)
    → (reads : Reads) → AnswerWords pipeline.inputs reads
    → (values : List ℕ) → Below values source_box.lasts → (x y : ℕ) → LiesIn values source_box x y
    → (func_index : ℕ) → AreBoxed no_loops (sources.Input func_index) (slice_get boxes.inputs func_index) (pure_points pipeline schedule reads reader func x y)

-- ---- Funcs

-- the loop at which a Func with this place is computed
abbrev pub consumer_in : Schedule → List (Option SourceBox) → ComputeLevel → Option ConsumerLoop
consumer_in schedule boxes (places.At at) = consumer_of at (slice_get schedule.funcs at.func) (box_in (slice_get boxes at.func))
consumer_in schedule boxes _ = None

-- A Func is computed at root, or at a loop of a Func after it.
abbrev pub IsComputed : ℕ → ComputeLevel → Type 0
IsComputed func places.Root = Unit {0}
IsComputed func (places.At at) = func < at.func
IsComputed func places.Inlined = ⊥
IsComputed func places.Nowhere = ⊥

-- Wherever loops take the arguments of a Func, all that its pure definition reads there of another Func that is computed lies in the box of
-- that one, while the loops of the consumer have these values.
abbrev pub PureReadsOfFuncsLie : Type 0
PureReadsOfFuncsLie = (pipeline : Pipeline) (schedule : Schedule) (boxes : Boxes) → IsWellFormed pipeline → inferred pipeline schedule ≡ Ok boxes
    → (reader : ℕ) (func : Func) (source_box : SourceBox) → slice_get pipeline.funcs reader ≡ Some func → slice_get boxes.funcs reader ≡ Some (Some source_box)
    → (func_index : ℕ) (sought : FuncPlacement) → func_index < reader → slice_get schedule.standings func_index ≡ Some sought → sought.is_reached ≡ true
    → IsComputed func_index sought.place
    → (consumer : Option ConsumerLoop) → consumer_in schedule boxes.funcs sought.place ≡ consumer
    → (view : SourceBox) → view_of (slice_get schedule.funcs reader) (slice_get schedule.standings reader) source_box consumer ≡ view
    → (reads : Reads) → AnswerWords pipeline.inputs reads
    → (values : List ℕ) → Below values view.lasts → Below (values_for consumer values) (lasts_of consumer) → (x y : ℕ) → LiesIn values view x y
    → AreBoxed (values_for consumer values) (sources.Func func_index) (slice_get boxes.funcs func_index) (pure_points pipeline schedule reads reader func x y)

-- ---- updates

abbrev pub seen_in : Pipeline → Schedule → Reads → ℕ → Environment → Expr → Seen
seen_in pipeline schedule reads count environment e =
    inlined (seeing reads) (flagged (flags_of schedule.standings)) pipeline.funcs count (seen_variable environment) e

abbrev pub second_seen : Pipeline → Schedule → Reads → ℕ → Environment → Option Expr → Seen
second_seen pipeline schedule reads count environment None = record { value = 0; points = [] }
second_seen pipeline schedule reads count environment (Some e) = seen_in pipeline schedule reads count environment e

-- What an update reads through its inlined Funcs at a point of its reduction box, while its arguments are these: what its left indexes read,
-- the point that these name, of its own Func, and what its right side reads.
abbrev pub points_at : Pipeline → Schedule → Reads → ℕ → Update → Environment → List Point
points_at pipeline schedule reads reader update environment =
    (seen_in pipeline schedule reads reader environment update.left_x).points
    ++ ((second_seen pipeline schedule reads reader environment update.left_y).points
    ++ (record {
      source = sources.Func reader;
      x = (seen_in pipeline schedule reads reader environment update.left_x).value;
      y = (second_seen pipeline schedule reads reader environment update.left_y).value;
    } ∷ (seen_in pipeline schedule reads (suc reader) environment update.right).points))

abbrev pub update_points : Pipeline → Schedule → Reads → ℕ → Update → ℕ → ℕ → ℕ → List Point
update_points pipeline schedule reads reader update number x y = points_at pipeline schedule reads reader update (at_reduction update number x y)

-- as a signed number, from -2^24 to 2^24
pub record IsNear (x : ℕ) : Type 0 where
  pub low : origin - 2 ^ 24 ≤ spot x
  pub high : spot x ≤ origin + 2 ^ 24

-- Wherever loops take a point of a Func's box, all that its updates read there of inputs lies in their boxes.
abbrev pub UpdateReadsOfInputsLie : Type 0
UpdateReadsOfInputsLie = (pipeline : Pipeline) (schedule : Schedule) (boxes : Boxes) → IsWellFormed pipeline → inferred pipeline schedule ≡ Ok boxes
    → (reader : ℕ) (func : Func) (source_box : SourceBox) → slice_get pipeline.funcs reader ≡ Some func → slice_get boxes.funcs reader ≡ Some (Some source_box)
    → (at : ℕ) (update : Update) → slice_get func.updates at ≡ Some update
    → (reads : Reads) → AnswerWords pipeline.inputs reads
    → (values : List ℕ) → Below values source_box.lasts → (x y : ℕ) → LiesIn values source_box x y → IsNear x → IsNear y → (number : ℕ) → number < points update
    → (func_index : ℕ) → AreBoxed no_loops (sources.Input func_index) (slice_get boxes.inputs func_index) (update_points pipeline schedule reads reader update number x y)

-- And all that they read there of another Func that is computed lies in the box of that one.
abbrev pub UpdateReadsOfFuncsLie : Type 0
UpdateReadsOfFuncsLie = (pipeline : Pipeline) (schedule : Schedule) (boxes : Boxes) → IsWellFormed pipeline → inferred pipeline schedule ≡ Ok boxes
    → (reader : ℕ) (func : Func) (source_box : SourceBox) → slice_get pipeline.funcs reader ≡ Some func → slice_get boxes.funcs reader ≡ Some (Some source_box)
    → (at : ℕ) (update : Update) → slice_get func.updates at ≡ Some update
    → (func_index : ℕ) (sought : FuncPlacement) → func_index < reader → slice_get schedule.standings func_index ≡ Some sought → sought.is_reached ≡ true
    → IsComputed func_index sought.place
    → (consumer : Option ConsumerLoop) → consumer_in schedule boxes.funcs sought.place ≡ consumer
    → (view : SourceBox) → view_of (slice_get schedule.funcs reader) (slice_get schedule.standings reader) source_box consumer ≡ view
    → (reads : Reads) → AnswerWords pipeline.inputs reads
    → (values : List ℕ) → Below values view.lasts → Below (values_for consumer values) (lasts_of consumer)
    → (x y : ℕ) → LiesIn values view x y → IsNear x → IsNear y
    → (number : ℕ) → number < points update
    → AreBoxed (values_for consumer values) (sources.Func func_index) (slice_get boxes.funcs func_index) (update_points pipeline schedule reads reader update number x y)

-- ---- a Func's own box

-- The output's picture lies in its Func's box.
abbrev pub OutputLies : Type 0
OutputLies = (pipeline : Pipeline) (schedule : Schedule) (boxes : Boxes) → IsWellFormed pipeline → inferred pipeline schedule ≡ Ok boxes
    → (sought : FuncPlacement) → slice_get schedule.standings pipeline.output.func ≡ Some sought → sought.is_reached ≡ true → sought.place ≡ places.Root
    → (x y : ℕ) → x < pipeline.output.width → y < pipeline.output.height → IsBoxed no_loops (slice_get boxes.funcs pipeline.output.func) x y

-- Where dimensions count, the point lies in the box in these.
pub record LiesPartly (values : List ℕ) (source_box : SourceBox) (counts_first counts_second : Bool) (x y : ℕ) : Type 0
  where
    pub first : counts_first ≡ true → Lies source_box.lasts values source_box.x x
    pub second : counts_second ≡ true → Lies source_box.lasts values source_box.y y

abbrev pub IsPartlyBoxed : List ℕ → Option (Option SourceBox) → Bool → Bool → ℕ → ℕ → Type 0
IsPartlyBoxed values None first second x y = Unit {0}
IsPartlyBoxed values (Some None) first second x y = Unit {0}
IsPartlyBoxed values (Some (Some own)) first second x y = LiesPartly values own first second x y

-- What an update of a Func at root reads of its own Func, the point that its left side names among it, lies in the Func's box in each
-- dimension that isn't in place.
abbrev pub OwnReadsLie : Type 0
OwnReadsLie = (pipeline : Pipeline) (schedule : Schedule) (boxes : Boxes) → IsWellFormed pipeline → inferred pipeline schedule ≡ Ok boxes
    → (reader : ℕ) (func : Func) (sought : FuncPlacement) → slice_get pipeline.funcs reader ≡ Some func
    → slice_get schedule.standings reader ≡ Some sought → sought.is_reached ≡ true → sought.place ≡ places.Root
    → (at : ℕ) (update : Update) → slice_get func.updates at ≡ Some update
    → (reads : Reads) → AnswerWords pipeline.inputs reads
    → (x y : ℕ) → x < 2 ^ 32 → y < 2 ^ 32 → IsNear x → IsNear y → (number : ℕ) → number < points update
    → AllByRecursion
    (λ point. same_source point.source (sources.Func reader) ≡ true
    → IsPartlyBoxed no_loops (slice_get boxes.funcs reader) (not (is_first_in_place update)) (not (is_second_in_place update)) point.x point.y)
    (update_points pipeline schedule reads reader update number x y)
