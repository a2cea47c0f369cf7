-- Nests of Funcs that are computed at the loops of a consumer.
--
-- At the beginning of each iteration of a loop stand the nests of the Funcs that are computed at it, in order of the text. Each fills the Func's
-- buffer, which begins at the corner of its box in that iteration. The loops of the consumer alone have iterations there.
-- This project's own.
use Rattle.std.specs.Prelude.{◌≡◌, ◌<◌, ℕ, suc, ◌≤◌, ◌&&◌, Bool, true, List, [], ◌∷◌, ◌++◌, ◌+◌, ◌*◌, length, max, Option, Some, None, slice_get, false}
use Rattle.std.specs.List.{AllByRecursion}
use Rattle.halide_pipeline.specs.declared.definitions.Func.{Func}
use Rattle.halide_pipeline.specs.declared.definitions.Update.{Update}
use Rattle.halide_pipeline.specs.declared.expressions.Source.TheVariants as sources
use Rattle.halide_pipeline.specs.Pipelines.{Pipeline}
use Rattle.halide_pipeline.specs.Words as word
use Rattle.halide_pipeline.specs.Pixel.{Plane, Planes, Reads, reads_of, with_plane, points, stage, pixels}
use Rattle.halide_pipeline.specs.Points.{Point, Agree, Hold}
use Rattle.schedule_lines.specs.declared.stages.Loop.{Loop}
use Rattle.schedule_lines.specs.declared.stages.Mark.TheVariants as marks
use Rattle.schedule_lines.specs.declared.stages.Stage.{Stage}
use Rattle.schedule_lines.specs.Directives.{is_marked}
use Rattle.schedule.specs.declared.plans.FuncPlan.{FuncPlan}
use Rattle.schedule.specs.declared.schedules.Schedule.{Schedule}
use Rattle.schedule.specs.declared.placements.LoopPosition.{LoopPosition}
use Rattle.schedule.specs.declared.placements.ComputeLevel.TheVariants as places
use Rattle.schedule_loops.specs.declared.extents.Extents.{Extents}
use Rattle.schedule_loops.specs.Visits as loops
use Rattle.schedule_loops.specs.Visits.{parallel}
use Rattle.schedule_loops.specs.Reach.{wholes}
use Rattle.bounds_ranges.specs.Laws.{Below, AnswerWords}
use Rattle.bounds.specs.declared.boxes.SourceBox.{SourceBox}
use Rattle.bounds.specs.declared.verdict.Boxes.{Boxes}
use Rattle.bounds.specs.Extents.{extent}
use Rattle.bounds.specs.Boxes.{same_source}
use Rattle.bounds_laws.specs.Laws.{LiesIn, pure_points, update_points}
use Rattle.loop_ir.specs.declared.statements.Stmt.{Stmt}
use Rattle.loop_ir.specs.Buffers.{Points}
use Rattle.loop_ir.specs.Counters.{Values, no_values, with}
use Rattle.loop_ir.specs.Depths.{depth}
use Rattle.loop_ir.specs.Needs.{greatest_need}
use Rattle.loop_ir.specs.Sizes.{loop_room, whole_size}
use Rattle.loop_ir.specs.Running.{run, iterated}
use Rattle.loop_ir.specs.Soundness.{every, is_sound}
use Rattle.loop_ir.specs.Stores.{Trace, trace}
use Rattle.lowering_nests.specs.Nests.{loops_of, put_loops, AreSmall, Repeats}
use Rattle.lowering_expressions.specs.declared.calls.Corner.{Corner}
use Rattle.lowering_expressions.specs.Lowering.{placed, place as place_in}
use Rattle.lowering.specs.Corners.{first_of, iterations_for, AreCorners}
use Rattle.lowering.specs.Planes.{has_point, box_points}
use Rattle.lowering.specs.PurePhases.{inside_of}
use Rattle.bounds.specs.Stages.{IsComputedAt}
use Rattle.lowering.specs.Registers.{most_need}
use Rattle.lowering.specs.Sizes.{func_share}
use Rattle.bounds_weights.specs.Weight.{flags_of}
use Rattle.lowering.specs.LoopLanes.{MayAlwaysBeAtOnce, at_once_first}
use Rattle.lowering_nests.specs.LoopLanes.{GoesAround, IsLeaf}
use Rattle.lowering_nests.specs.Runs.{RunsAround}
use Rattle.loop_ir.specs.LoopLanes.{may_be_at_once}
use Rattle.loop_ir.specs.Runs.{is_about, stores_in_runs}

-- ---- what a nest does

-- The loops of the consumer alone are in these iterations.
abbrev pub consuming : ℕ → loops.Values → Values
consuming consumer iterations = put_loops consumer iterations no_values

-- The buffer of a Func has these pixels from the corner of its box on, while loops have these values.
abbrev pub Holds : ℕ → SourceBox → List ℕ → Plane → Planes → Type 0
Holds func_index source_box values plane funcs =
    (x y : ℕ) → x < extent source_box.x → y < extent source_box.y → funcs func_index x y ≡ plane (word.add (first_of source_box.x values) x) (word.add (first_of source_box.y values) y)

-- All other buffers are as they were.
abbrev pub Keeps : ℕ → Planes → Planes → Type 0
Keeps func_index funcs after = (other x y : ℕ) → (other ≡ func_index → ⊥) → after other x y ≡ funcs other x y

pub record Leaves (func_index : ℕ) (source_box : SourceBox) (values : List ℕ) (plane : Plane) (funcs after : Planes) :
    Type 0 where
  pub holds : Holds func_index source_box values plane after
  pub keeps : Keeps func_index funcs after

abbrev pub run_first : Points → Planes → Option Stmt → Values → Planes → Planes
run_first points inputs None values funcs = funcs
run_first points inputs (Some first) values funcs = run points inputs first values funcs

abbrev pub trace_first : Points → Planes → ℕ → ℕ → ℕ → Option Stmt → Values → Trace → Trace
trace_first points inputs func_index x y None values so_far = so_far
trace_first points inputs func_index x y (Some first) values so_far = trace points inputs func_index x y first values
    so_far

abbrev pub is_sound_first : Reads → Points → (Point → Bool) → Option Stmt → Values → Bool
is_sound_first reads written loaded None values = true
is_sound_first reads written loaded (Some first) values = is_sound reads written loaded first values

abbrev pub depth_first : Option Stmt → ℕ
depth_first None = 0
depth_first (Some first) = depth first

abbrev pub need_first : Option Stmt → ℕ
need_first None = 0
need_first (Some first) = greatest_need first

abbrev pub about_first : ℕ → Option Stmt → Bool
about_first func_index None = true
about_first func_index (Some first) = is_about func_index first

abbrev pub in_runs_first : Reads → ℕ → ℕ → ℕ → (Values → Bool) → Option Stmt → Values → Bool
in_runs_first reads func x y expected None values = true
in_runs_first reads func x y expected (Some first) values = stores_in_runs reads func x y expected first values

abbrev pub size_first : Option Stmt → ℕ
size_first None = 0
size_first (Some first) = whole_size first

-- A statement does this first, and then another one.
pub record DoesFirst (new_statement : Option Stmt) (rest statement : Stmt) : Type 0 where
  pub runs : (points : Points) (inputs : Planes) (values : Values) (funcs : Planes)
      → run points inputs statement values funcs ≡ run points inputs rest values
      (run_first points inputs new_statement values funcs)
  pub traces : (points : Points) (inputs : Planes) (func_index x y : ℕ) (values : Values) (so_far : Trace)
      → trace points inputs func_index x y statement values so_far ≡ trace points inputs func_index x y rest values (trace_first points inputs func_index x y new_statement values so_far)
  pub sound : (reads : Reads) (written : Points) (loaded : Point → Bool) (values : Values)
      → is_sound reads written loaded statement values ≡ (is_sound_first reads written loaded new_statement values && is_sound reads written loaded rest values)
  pub depth_is : depth statement ≡ max (depth_first new_statement) (depth rest)
  pub need_is : greatest_need statement ≡ max (need_first new_statement) (greatest_need rest)
  pub size_is : whole_size statement ≡ size_first new_statement + whole_size rest
  pub at_once : (reads : Reads) (values : Values) → may_be_at_once reads statement values ≡ (at_once_first reads new_statement values && may_be_at_once reads rest values)
  pub alone_is : new_statement ≡ None → statement ≡ rest
  pub about : (func_index : ℕ) → is_about func_index statement ≡
      (about_first func_index new_statement && is_about func_index rest)
  pub in_runs : (reads : Reads) (func x y : ℕ) (expected : Values → Bool) (values : Values)
      → stores_in_runs reads func x y expected statement values
      ≡ (in_runs_first reads func x y expected new_statement values && stores_in_runs reads func x y expected rest
      values)

-- It stores in the buffer of one Func alone, while the Func's loops stand at small values.
abbrev pub StoresInIt : ℕ → Stmt → Type 0
StoresInIt func_index statement =
    (points : Points) (inputs : Planes) (func x y : ℕ) → (func ≡ func_index → ⊥) → (values : Values) → AreSmall (loops_of func_index values) → (so_far : Trace)
    → (trace points inputs func x y statement values so_far).is_stored ≡ so_far.is_stored

-- It does another one in this many iterations of a loop.
pub record DoesIterations (consumer : ℕ) (stage_loop : Loop) (count : ℕ) (body statement : Stmt) : Type 0 where
  pub runs : (points : Points) (inputs : Planes) (values : Values) (funcs : Planes)
      → run points inputs statement values funcs ≡ iterated count (λ iteration. run points inputs body (with (record { func = consumer; id = stage_loop.id }) iteration values)) funcs
  pub traces : (points : Points) (inputs : Planes) (func_index x y : ℕ) (values : Values) (so_far : Trace)
      → trace points inputs func_index x y statement values so_far ≡ iterated count (λ iteration. trace points inputs func_index x y body
      (with (record { func = consumer; id = stage_loop.id }) iteration values)) so_far
  pub sound : (reads : Reads) (written : Points) (loaded : Point → Bool) (values : Values)
      → is_sound reads written loaded statement values ≡ every count (λ iteration. is_sound reads written loaded body (with (record { func = consumer; id = stage_loop.id }) iteration
      values))
  pub depth_is : depth statement ≡ suc (depth body)
  pub need_is : greatest_need statement ≡ greatest_need body
  pub size_is : whole_size statement ≡ loop_room (is_marked marks.Unrolled stage_loop) count (whole_size body)

module _ (pipeline : Pipeline) (schedule : Schedule) (boxes : Boxes) where
  -- What the pure definition reads of other Funcs, wherever its arguments lie in its box, is answered as by their pixels, while the loops
  -- of the consumer stand so, and whatever its own buffer holds.
  abbrev pub IsAnswered : ℕ → ℕ → Func → SourceBox → List ℕ → Planes → loops.Values → Planes → Type 0
  IsAnswered consumer func_index func own values inputs in_task funcs =
      (corners : List Corner) → AreCorners schedule.funcs boxes.funcs schedule.standings corners
      → (counters : Values) → loops_of consumer counters ≡ in_task → (now : Planes) → Keeps func_index funcs now
      → (x y : ℕ) → LiesIn values own x y
      → Agree (reads_of inputs (pixels pipeline.funcs inputs func_index))
      (placed corners counters (reads_of inputs now))
      (pure_points pipeline schedule (reads_of inputs (pixels pipeline.funcs inputs func_index)) func_index func x y)

  -- What its updates read of other Funcs, wherever its arguments lie in its box, is answered so too.
  abbrev pub AreUpdatesAnswered : ℕ → ℕ → Func → SourceBox → List ℕ → Planes → loops.Values → Planes → Type 0
  AreUpdatesAnswered consumer func_index func own values inputs in_task funcs =
      (corners : List Corner) → AreCorners schedule.funcs boxes.funcs schedule.standings corners
      → (counters : Values) → loops_of consumer counters ≡ in_task → (now : Planes) → Keeps func_index funcs now
      → (at : ℕ) (update : Update) → slice_get func.updates at ≡ Some update → (number x y : ℕ) → number < points update → LiesIn values own x y
      → (plane : Plane) → AnswerWords pipeline.inputs (reads_of inputs (with_plane func_index plane (pixels pipeline.funcs inputs func_index)))
      → AllByRecursion
      (λ point. same_source point.source (sources.Func func_index) ≡ false
      → placed corners counters (reads_of inputs now) point.source point.x point.y
      ≡ reads_of inputs (pixels pipeline.funcs inputs func_index) point.source point.x point.y)
      (update_points pipeline schedule (reads_of inputs (with_plane func_index plane (pixels pipeline.funcs inputs func_index))) func_index update number x y)

  -- The nest leaves what is after the stages up to the one with this number in the whole box of the Func, and keeps all else. Where
  -- the box begins depends on the iterations of the consumer's loops.
  abbrev pub DoesNest : LoopPosition → ℕ → Func → SourceBox → ℕ → Stmt → Type 0
  DoesNest at func_index func own number new_statement =
      (inputs : Planes) (in_task : loops.Values) → Below (iterations_for schedule.funcs (places.At at) (consuming at.func in_task)) own.lasts
      → (funcs : Planes) → IsAnswered at.func func_index func own (iterations_for schedule.funcs (places.At at) (consuming at.func in_task)) inputs in_task funcs
      → Leaves func_index own (iterations_for schedule.funcs (places.At at) (consuming at.func in_task)) (stage func_index func inputs (pixels pipeline.funcs inputs func_index)
      number)
      funcs (run (box_points boxes.funcs) inputs new_statement (consuming at.func in_task) funcs)

  -- So it is for inputs of words, where what updates read is answered too.
  abbrev pub DoesNests : LoopPosition → ℕ → Func → SourceBox → ℕ → Stmt → Type 0
  DoesNests at func_index func own number new_statement =
      (inputs : Planes) → AnswerWords pipeline.inputs (reads_of inputs (pixels pipeline.funcs inputs 0))
      → (in_task : loops.Values) → Below (iterations_for schedule.funcs (places.At at) (consuming at.func in_task)) own.lasts
      → (funcs : Planes) → IsAnswered at.func func_index func own (iterations_for schedule.funcs (places.At at) (consuming at.func in_task)) inputs in_task funcs
      → AreUpdatesAnswered at.func func_index func own (iterations_for schedule.funcs (places.At at) (consuming at.func in_task)) inputs in_task funcs
      → Leaves func_index own (iterations_for schedule.funcs (places.At at) (consuming at.func in_task)) (stage func_index func inputs (pixels pipeline.funcs inputs func_index)
      number)
      funcs (run (box_points boxes.funcs) inputs new_statement (consuming at.func in_task) funcs)

  -- ---- what a nest touches

  -- The points of the Func's box may be written and loaded, and so may be loaded, wherever its arguments lie in its box, all that its pure
  -- definition and its updates read of other sources, while the loops of the consumer stand so.
  pub record MayTouch (consumer func_index : ℕ) (func : Func) (own : SourceBox) (values : List ℕ) (reads : Reads) (written : Points) (loaded : Point
      → Bool) (in_task : loops.Values) : Type 0 where
    pub writes : (x y : ℕ) → has_point (Some own) x y ≡ true → written func_index x y ≡ true
    pub loads : (x y : ℕ) → has_point (Some own) x y ≡ true → loaded (record { source = sources.Func func_index; x = x; y = y }) ≡ true
    pub pure : (corners : List Corner) → AreCorners schedule.funcs boxes.funcs schedule.standings corners
        → (counters : Values) → loops_of consumer counters ≡ in_task → (x y : ℕ) → LiesIn values own x y
        → Hold (λ point. loaded (place_in corners counters point)) (pure_points pipeline schedule (placed corners counters reads) func_index func x y)
    pub updates : (corners : List Corner) → AreCorners schedule.funcs boxes.funcs schedule.standings corners
        → (counters : Values) → loops_of consumer counters ≡ in_task
        → (at : ℕ) (update : Update) → slice_get func.updates at ≡ Some update → (number x y : ℕ) → number < points update → LiesIn values own x y
        → AllByRecursion (λ point. same_source point.source (sources.Func func_index) ≡ false → loaded (place_in corners counters point) ≡ true)
        (update_points pipeline schedule (placed corners counters reads) func_index update number x y)

  -- Where that may be touched, the nest is sound, whatever reads are answered by, as long as these are words.
  abbrev pub IsSoundNest : LoopPosition → ℕ → Func → SourceBox → Stmt → Type 0
  IsSoundNest at func_index func own new_statement =
      (reads : Reads) → AnswerWords pipeline.inputs reads → (written : Points) (loaded : Point → Bool)
      → (in_task : loops.Values) → Below (iterations_for schedule.funcs (places.At at) (consuming at.func in_task)) own.lasts
      → MayTouch at.func func_index func own (iterations_for schedule.funcs (places.At at) (consuming at.func in_task)) reads written loaded in_task
      → is_sound reads written loaded new_statement (consuming at.func in_task) ≡ true

  -- ---- nests at the beginning of an iteration

  -- A Func that is computed at the loop, and the nests of all its stages.
  pub record IsNestOf (at : LoopPosition) (func_index : ℕ) (new_statement : Stmt) : Type 0 where
    pub func : Func
    pub plan : FuncPlan
    pub own : SourceBox
    pub parts : IsComputedAt pipeline schedule boxes (places.At at) func_index func plan own
    pub does : DoesNests at func_index func own (length func.updates) new_statement
    pub alone : StoresInIt func_index new_statement
    pub sound : IsSoundNest at func_index func own new_statement
    -- under at most five loops and four values of split ones
    pub few : depth new_statement ≤ 9
    pub needs : greatest_need new_statement ≤ most_need pipeline schedule
    pub small : whole_size new_statement ≤ 64 * func_share (flags_of schedule.standings) pipeline.funcs func plan
    pub at_once : MayAlwaysBeAtOnce new_statement
    pub about : is_about func_index new_statement ≡ true

  -- There are some exactly if it is computed there.
  abbrev pub IsNestAt : LoopPosition → ℕ → Option Stmt → Type 0
  IsNestAt at func_index None = (func : Func) (plan : FuncPlan) (own : SourceBox) → IsComputedAt pipeline schedule boxes (places.At at) func_index func plan own → ⊥
  IsNestAt at func_index (Some new_statement) = IsNestOf at func_index new_statement

  -- The nests of the Funcs from a place on that are computed at a loop, in order, and then what is inside.
  pub data HasNests (at : LoopPosition) : ℕ → Stmt → Stmt → Type 0 where
    None_left : (from : ℕ) (inside : Stmt) → length schedule.standings ≤ from → HasNests at from inside inside
    One_more : (from : ℕ) (found_statement : Option Stmt) (inside rest new_statement : Stmt) → IsNestAt at from found_statement → HasNests at (suc from) inside rest
        → DoesFirst found_statement rest new_statement → HasNests at from inside new_statement

  -- ---- loops

  -- Loops of a consumer, innermost first, around a statement, with the nests of the Funcs that are computed at each of them.
  pub data HasLoops (consumer : ℕ) (counts : loops.Values) (leaf : Stmt) : List Loop → Stmt → Type 0 where
    No_loops : HasLoops consumer counts leaf [] leaf
    One_outside : (inside : List Loop) (own : Loop) (inner body new_statement : Stmt) → HasLoops consumer counts leaf inside inner
        → HasNests (record { func = consumer; inside = own.id }) 0 inner body → DoesIterations consumer own (counts own.id) body new_statement
        → GoesAround consumer counts own body new_statement → RunsAround consumer counts own body new_statement
        → HasLoops consumer counts leaf (inside ++ own ∷ []) new_statement

  -- What a task does: the loops inside the parallel one, and before them the nests of the Funcs that are computed at the parallel one.
  abbrev pub HasOutermost : ℕ → Option Loop → Stmt → Stmt → Type 0
  HasOutermost consumer None inner body = body ≡ inner
  HasOutermost consumer (Some own) inner body = HasNests (record { func = consumer; inside = own.id }) 0 inner body

  pub record IsBody (consumer : ℕ) (stage : Stage) (extents : Extents) (store body : Stmt) : Type 0 where
    pub leaf : Stmt
    pub inner : Stmt
    pub bound : Repeats consumer leaf store (wholes extents stage.splits [])
    pub depth_is : depth leaf ≡ length stage.splits + depth store
    pub need_is : greatest_need leaf ≡ greatest_need store
    pub size_is : whole_size leaf ≡ 25 * length stage.splits + whole_size store
    pub leaf_is : IsLeaf store → IsLeaf leaf
    pub looped : HasLoops consumer (loops.counts extents stage.splits) leaf (inside_of (parallel stage) stage.loops) inner
    pub begun : HasOutermost consumer (parallel stage) inner body
