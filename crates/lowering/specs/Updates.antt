-- Updates: the store of one, its phase where its Func is computed at root, and its loops where the Func is computed at a loop.
--
-- The loops of an update are over the arguments in place and over its reduction variables. A slice is what visits with the same
-- arguments in place make: they go through the reduction box in order, and read and write the Func at those arguments alone.
-- This project's own.
use Rattle.std.specs.Prelude.{◌≡◌, ◌<◌, ℕ, suc, ◌==◌, ◌&&◌, ◌||◌, Bool, true, false, List, [], Option, Some, None, slice_get}
use Rattle.std.specs.List.{AllByRecursion, list_any}
use Rattle.halide_pipeline.specs.declared.definitions.Func.{Func}
use Rattle.halide_pipeline.specs.declared.definitions.Reduction.{Reduction}
use Rattle.halide_pipeline.specs.declared.definitions.Update.{Update}
use Rattle.halide_pipeline.specs.declared.expressions.Expr.{Expr}
use Rattle.halide_pipeline.specs.declared.expressions.Source.TheVariants as sources
use Rattle.halide_pipeline.specs.declared.expressions.Variable.TheVariants as variables
use Rattle.halide_pipeline.specs.WellFormed.{is_first_in_place, is_second_in_place}
use Rattle.halide_pipeline.specs.Pipelines.{Pipeline}
use Rattle.halide_pipeline.specs.Words as word
use Rattle.halide_pipeline.specs.declared.environments.Environment.{Environment}
use Rattle.halide_pipeline.specs.Pixel.{Plane, Planes, Reads, variable, reads_of, with_plane, points, stage, pixels}
use Rattle.halide_pipeline.specs.Points.{Point, Hold}
use Rattle.schedule_lines.specs.declared.stages.LoopId.{LoopId}
use Rattle.schedule_lines.specs.declared.stages.Stage.{Stage}
use Rattle.schedule.specs.declared.plans.FuncPlan.{FuncPlan}
use Rattle.schedule.specs.declared.schedules.Schedule.{Schedule}
use Rattle.schedule.specs.declared.placements.ComputeLevel.TheVariants as places
use Rattle.schedule.specs.declared.placements.FuncPlacement.{FuncPlacement}
use Rattle.schedule.specs.Uses.{IsReached}
use Rattle.schedule_loops.specs.Visits as loops
use Rattle.schedule_loops.specs.Visits.{visits_in, Visit, is_slice}
use Rattle.bounds_inlining.specs.Inlining.{inlined, flagged}
use Rattle.bounds_inlining.specs.Laws.{seen_variable}
use Rattle.bounds_inlining.specs.Values.{values as valuing, seeing}
use Rattle.bounds_ranges.specs.Laws.{Below, AnswerWords}
use Rattle.bounds_weights.specs.Weight.{flags_of}
use Rattle.bounds.specs.declared.boxes.ConsumerLoop.{ConsumerLoop}
use Rattle.bounds.specs.declared.boxes.SourceBox.{SourceBox}
use Rattle.bounds.specs.declared.verdict.Boxes.{Boxes}
use Rattle.bounds.specs.Boxes.{lasts_of, same_source}
use Rattle.bounds.specs.Extents.{update_extents, BoxCorner}
use Rattle.bounds_laws.specs.ConsumerLaws.{IsFrom}
use Rattle.bounds_laws.specs.Laws.{LiesIn, values_for, consumer_in, IsComputed, update_points}
use Rattle.loop_ir.specs.declared.statements.Stmt.{Stmt}
use Rattle.loop_ir.specs.Buffers.{Points, put}
use Rattle.loop_ir.specs.Counters.{Values}
use Rattle.loop_ir.specs.Expressions.{linear_value}
use Rattle.loop_ir.specs.Running.{run}
use Rattle.loop_ir.specs.Soundness.{is_sound}
use Rattle.loop_ir.specs.Stores.{Trace, trace}
use Rattle.lowering_nests.specs.Nests.{loops_of, put_loops}
use Rattle.lowering_expressions.specs.declared.calls.Corner.{Corner}
use Rattle.lowering_expressions.specs.Lowering.{placed, place as place_in}
use Rattle.lowering.specs.Planes.{from_corner, has_point, box_points}
use Rattle.lowering.specs.Corners.{IsCorner, AreCorners}
use Rattle.lowering.specs.PurePhases.{whole_at}

-- ---- which update it is

-- A Func that the output reaches and that is computed, with its loops and its box.
pub record IsComputedIn (pipeline : Pipeline) (schedule : Schedule) (boxes : Boxes) (func_index : ℕ) (func : Func) (plan : FuncPlan) (source_box : SourceBox) : Type 0 where
  pub func_is : slice_get pipeline.funcs func_index ≡ Some func
  pub plan_is : slice_get schedule.funcs func_index ≡ Some plan
  pub box_is : slice_get boxes.funcs func_index ≡ Some (Some source_box)
  pub standing : FuncPlacement
  pub there : IsReached schedule.standings func_index standing
  pub computed : IsComputed func_index standing.place

-- The update with this number, from 0, of the Func at a place, with its loops.
pub record IsUpdateAt (schedule : Schedule) (func_index : ℕ) (func : Func) (plan : FuncPlan) (at : ℕ) (update : Update) (stage : Stage) : Type 0 where
  pub plan_is : slice_get schedule.funcs func_index ≡ Some plan
  pub update_is : slice_get func.updates at ≡ Some update
  pub stage_is : slice_get plan.updates at ≡ Some stage

-- ---- its store

-- what the second reduction variable stands for, counted from its minimum
abbrev pub second_reduced : Values → ℕ → Option Reduction → ℕ
second_reduced values func_index None = 0
second_reduced values func_index (Some own) = word.add (whole_at values func_index variables.SecondReduction)
    own.minimum

-- what the variables stand for: arguments counted from the corner, reduction variables from their minimum
abbrev pub visited_point : Values → ℕ → Corner → Update → Environment
visited_point values func_index corner update = record {
  first_argument = word.add (whole_at values func_index variables.FirstArgument) (linear_value values corner.x);
  second_argument = word.add (whole_at values func_index variables.SecondArgument) (linear_value values corner.y);
  first_reduction = word.add (whole_at values func_index variables.FirstReduction) update.first.minimum;
  second_reduction = second_reduced values func_index update.second;
}

-- an index that isn't written is 0
abbrev pub index_of : (Expr → ℕ) → Option Expr → ℕ
index_of answer None = 0
index_of answer (Some index) = answer index

-- It writes the value of the right side at the point that the left side names, counted from the Func's corner.
abbrev pub StoresUpdate : List Corner → (ℕ → Bool) → List Func → ℕ → Corner → Update → Stmt → Type 0
StoresUpdate corners flags funcs func_index corner update statement =
    (points : Points) (inputs : Planes) (values : Values) (buffers : Planes)
    → run points inputs statement values buffers
    ≡ put points func_index
    (word.subtract (inlined (valuing (placed corners values (reads_of inputs buffers))) flags funcs func_index (variable (visited_point values func_index corner update))
    update.left_x) (linear_value values corner.x))
    (word.subtract (index_of (inlined (valuing (placed corners values (reads_of inputs buffers))) flags funcs func_index
    (variable (visited_point values func_index corner update))) update.left_y) (linear_value values corner.y))
    (inlined (valuing (placed corners values (reads_of inputs buffers))) flags funcs (suc func_index) (variable (visited_point values func_index corner update))
    update.right)
    buffers

-- It stores at that point alone, and in that buffer.
abbrev pub HitsUpdate : List Corner → (ℕ → Bool) → List Func → ℕ → Corner → Update → Stmt → Type 0
HitsUpdate corners flags funcs func_index corner update statement =
    (points : Points) (inputs : Planes) (func x y : ℕ) (values : Values) (so_far : Trace)
    → (trace points inputs func x y statement values so_far).is_stored
    ≡ (so_far.is_stored
    || (func_index == func
    && (word.subtract (inlined (valuing (placed corners values (reads_of inputs so_far.funcs))) flags funcs func_index
    (variable (visited_point values func_index corner update)) update.left_x) (linear_value values corner.x) == x
    && word.subtract (index_of (inlined (valuing (placed corners values (reads_of inputs so_far.funcs))) flags funcs func_index
    (variable (visited_point values func_index corner update))) update.left_y) (linear_value values corner.y) == y)))

-- an index that isn't written reads nothing
abbrev pub points_of_index : (Expr → List Point) → Option Expr → List Point
points_of_index read None = []
points_of_index read (Some index) = read index

-- It is sound where that point may be written, and where all that the update reads there may be loaded, counted from the corners.
abbrev pub IsSoundUpdate : List Corner → (ℕ → Bool) → List Func → ℕ → Corner → Update → Stmt → Type 0
IsSoundUpdate corners flags funcs func_index corner update statement =
    (reads : Reads) (written : Points) (loaded : Point → Bool) (values : Values)
    → written func_index
    (word.subtract (inlined (valuing (placed corners values reads)) flags funcs func_index (variable (visited_point values func_index corner update)) update.left_x)
    (linear_value values corner.x))
    (word.subtract (index_of (inlined (valuing (placed corners values reads)) flags funcs func_index (variable (visited_point values func_index corner update)))
    update.left_y) (linear_value values corner.y)) ≡ true
    → Hold (λ point. loaded (place_in corners values point))
    (inlined (seeing (placed corners values reads)) flags funcs func_index (seen_variable (visited_point values func_index corner update)) update.left_x).points
    → Hold (λ point. loaded (place_in corners values point))
    (points_of_index (λ e. (inlined (seeing (placed corners values reads)) flags funcs func_index (seen_variable (visited_point values func_index corner update))
    e).points) update.left_y)
    → Hold (λ point. loaded (place_in corners values point))
    (inlined (seeing (placed corners values reads)) flags funcs (suc func_index) (seen_variable (visited_point values func_index corner update)) update.right).points
    → is_sound reads written loaded statement values ≡ true

-- It does so for an update of a Func with this box that is computed at root: each buffer begins at its box's corner.
pub record IsUpdateStoreOf (pipeline : Pipeline) (schedule : Schedule) (boxes : Boxes) (func_index : ℕ) (source_box : SourceBox) (update : Update) (statement : Stmt) : Type 0
  where
    pub corners : List Corner
    pub are_corners : AreCorners schedule.funcs boxes.funcs schedule.standings corners
    pub corner : Corner
    pub is_corner : IsCorner schedule.funcs places.Root source_box corner
    pub stores : StoresUpdate corners (flagged (flags_of schedule.standings)) pipeline.funcs func_index corner update
        statement
    pub hits : HitsUpdate corners (flagged (flags_of schedule.standings)) pipeline.funcs func_index corner update
        statement
    pub sound : IsSoundUpdate corners (flagged (flags_of schedule.standings)) pipeline.funcs func_index corner update
        statement

-- ---- slices

-- An argument in place tells slices apart; no loop is over any other, which stays 0.
abbrev pub in_place : Bool → ℕ → ℕ
in_place true n = n
in_place false n = 0

-- The slice of the visit has the point.
abbrev pub is_visited : Update → ℕ → ℕ → Visit → Bool
is_visited update x y visit = is_slice (in_place (is_first_in_place update) x) (in_place (is_second_in_place update) y) visit

-- A task owns the points of the box in the slices that its iteration visits. Which of them it writes depends on data.
abbrev pub owns_update : SourceBox → Update → Stage → ℕ → ℕ → ℕ → Bool
owns_update source_box update stage number x y = has_point (Some source_box) x y && list_any (is_visited update x y) (visits_in (update_extents source_box update) stage number)

-- ---- its loops, where the Func is computed at a loop

-- Whatever loops of the Func stand at, its corner is this point.
abbrev pub IsCornerAt : ℕ → Values → Corner → BoxCorner → Type 0
IsCornerAt func_index values corner box_corner = (inner : loops.Values)
    → (linear_value (put_loops func_index inner values) corner.x ≡ box_corner.x) × (linear_value (put_loops func_index inner values) corner.y ≡ box_corner.y)

-- The point is that of the box's corner, while loops of the consumer have these values.
pub record IsBegin (values : List ℕ) (source_box : SourceBox) (corner : BoxCorner) : Type 0 where
  pub x : IsFrom values source_box.x 0 corner.x
  pub y : IsFrom values source_box.y 0 corner.y

-- Wherever its loops take its arguments, an update reads other Funcs as by their pixels.
abbrev pub ReadsPixels : Pipeline → Schedule → List Corner → ℕ → Update → List ℕ → SourceBox → Planes → Values → Planes → Type 0
ReadsPixels pipeline schedule corners func_index update iterations source_box inputs values funcs =
    (inner : loops.Values) (number x y : ℕ) → number < points update → LiesIn iterations source_box x y
    → (plane : Plane) → AnswerWords pipeline.inputs (reads_of inputs (with_plane func_index plane (pixels pipeline.funcs inputs func_index)))
    → AllByRecursion
    (λ point. same_source point.source (sources.Func func_index) ≡ false
    → placed corners (put_loops func_index inner values) (reads_of inputs funcs) point.source point.x point.y
    ≡ reads_of inputs (pixels pipeline.funcs inputs func_index) point.source point.x point.y)
    (update_points pipeline schedule (reads_of inputs (with_plane func_index plane (pixels pipeline.funcs inputs func_index))) func_index update number x y)

-- Wherever its loops take its arguments, all that an update reads of other sources may be loaded.
abbrev pub LoadsOthers : Pipeline → Schedule → List Corner → ℕ → Update → List ℕ → SourceBox → Reads → (Point → Bool) → Values → Type 0
LoadsOthers pipeline schedule corners func_index update iterations source_box reads loaded values =
    (inner : loops.Values) (number x y : ℕ) → number < points update → LiesIn iterations source_box x y
    → AllByRecursion (λ point. same_source point.source (sources.Func func_index) ≡ false → loaded (place_in corners (put_loops func_index inner values) point) ≡ true)
    (update_points pipeline schedule (placed corners (put_loops func_index inner values) reads) func_index update number
    x y)

-- what is after this many updates, from a corner on
abbrev pub stage_from : Pipeline → Planes → ℕ → Func → BoxCorner → ℕ → Plane
stage_from pipeline inputs func_index func corner updates = from_corner corner (stage func_index func inputs (pixels pipeline.funcs inputs func_index) updates)

-- In the box of the Func there is this result, and all else is as it was.
pub record Leaves (func_index : ℕ) (source_box : SourceBox) (result : Plane) (funcs after : Planes) : Type 0 where
  pub does : (x y : ℕ) → has_point (Some source_box) x y ≡ true → after func_index x y ≡ result x y
  pub keeps : (other x y : ℕ) → (other ≡ func_index → has_point (Some source_box) x y ≡ false)
      → after other x y ≡ funcs other x y

-- the loop at which the Func is computed, if it is computed at one
abbrev pub consumer_at : Schedule → Boxes → FuncPlacement → Option ConsumerLoop
consumer_at schedule boxes placement = consumer_in schedule boxes.funcs placement.place

-- what loops of the consumer stand at, where there is a consumer
abbrev pub produced_iterations : Schedule → Boxes → FuncPlacement → List ℕ → List ℕ
produced_iterations schedule boxes placement iterations = values_for (consumer_at schedule boxes placement) iterations

-- So it is under all values of loops, of which the Func's own haven't begun, wherever those of the consumer take the Func's box.
abbrev pub DoesUpdate : Pipeline → Schedule → Boxes → List Corner → ℕ → Func → Corner → SourceBox → ℕ → Update → Stmt → Type 0
DoesUpdate pipeline schedule boxes corners func_index func corner source_box at update statement =
    (inputs : Planes) → AnswerWords pipeline.inputs (reads_of inputs (pixels pipeline.funcs inputs 0))
    → (placement : FuncPlacement) → IsReached schedule.standings func_index placement
    → (iterations : List ℕ) → Below (produced_iterations schedule boxes placement iterations) (lasts_of (consumer_at schedule boxes placement))
    → (begin : BoxCorner) → IsBegin (produced_iterations schedule boxes placement iterations) source_box begin
    → (values : Values) → IsCornerAt func_index values corner begin → ((id : LoopId)
    → loops_of func_index values id ≡ 0)
    → (funcs : Planes) → ReadsPixels pipeline schedule corners func_index update (produced_iterations schedule boxes placement iterations) source_box inputs values funcs
    → ((x y : ℕ) → has_point (Some source_box) x y ≡ true → funcs func_index x y ≡ stage_from pipeline inputs func_index func begin at x y)
    → Leaves func_index source_box (stage_from pipeline inputs func_index func begin (suc at)) funcs (run (box_points boxes.funcs) inputs statement values funcs)

-- They are sound under all such values, where the Func's box may be written and loaded, and all that the update reads of other sources may be
-- loaded, wherever its loops take its arguments.
abbrev pub AreSoundLoops : Pipeline → Schedule → Boxes → List Corner → ℕ → Corner → SourceBox → Update → Stmt → Type 0
AreSoundLoops pipeline schedule boxes corners func_index corner source_box update statement =
    (reads : Reads) → AnswerWords pipeline.inputs reads → (written : Points) (loaded : Point → Bool)
    → ((x y : ℕ) → has_point (Some source_box) x y ≡ true → written func_index x y ≡ true)
    → ((x y : ℕ) → has_point (Some source_box) x y ≡ true → loaded (record { source = sources.Func func_index; x = x; y = y }) ≡ true)
    → (placement : FuncPlacement) → IsReached schedule.standings func_index placement
    → (iterations : List ℕ) → Below (produced_iterations schedule boxes placement iterations) (lasts_of (consumer_at schedule boxes placement))
    → (begin : BoxCorner) → IsBegin (produced_iterations schedule boxes placement iterations) source_box begin
    → (values : Values) → IsCornerAt func_index values corner begin → ((id : LoopId)
    → loops_of func_index values id ≡ 0)
    → LoadsOthers pipeline schedule corners func_index update (produced_iterations schedule boxes placement iterations) source_box reads loaded values
    → is_sound reads written loaded statement values ≡ true
