-- The phase of a pure definition of a Func that is computed at root, with the Funcs computed at its loops in it.
-- This project's own.
use Rattle.std.specs.Prelude.{◌≡◌, ℕ, suc, not, ◌-◌, ◌%◌, ◌^◌, ◌==◌, ◌&&◌, ◌||◌, Bool, true, false, if◌then◌else◌, List, [], ◌∷◌, take, length, Option, Some}
use Rattle.std.specs.Prelude.{None}
use Rattle.halide_pipeline.specs.declared.definitions.Func.{Func}
use Rattle.halide_pipeline.specs.declared.definitions.Input.{Input}
use Rattle.halide_pipeline.specs.declared.expressions.Expr.{Expr}
use Rattle.halide_pipeline.specs.declared.expressions.Variable.{Variable}
use Rattle.halide_pipeline.specs.declared.expressions.Variable.TheVariants as variables
use Rattle.halide_pipeline.specs.Pipelines.{Pipeline}
use Rattle.halide_pipeline.specs.Words as word
use Rattle.halide_pipeline.specs.Pixel.{Planes, Reads, variable, reads_of, pixels, at_point}
use Rattle.halide_pipeline.specs.Points.{Point, Hold}
use Rattle.schedule_lines.specs.declared.stages.Loop.{Loop}
use Rattle.schedule_lines.specs.declared.stages.LoopId.TheVariants as ids
use Rattle.schedule.specs.declared.plans.FuncPlan.{FuncPlan}
use Rattle.schedule.specs.declared.schedules.Schedule.{Schedule}
use Rattle.schedule.specs.declared.placements.LoopPosition.{LoopPosition}
use Rattle.schedule.specs.declared.placements.ComputeLevel.{ComputeLevel}
use Rattle.schedule.specs.declared.placements.ComputeLevel.TheVariants as places
use Rattle.schedule.specs.declared.placements.FuncPlacement.{FuncPlacement}
use Rattle.schedule.specs.Legal.{is_root}
use Rattle.schedule.specs.Uses.{IsReached}
use Rattle.bounds_inlining.specs.Inlining.{inlined, flagged}
use Rattle.bounds_inlining.specs.Laws.{seen_variable}
use Rattle.bounds_inlining.specs.Values.{values as valuing, seeing}
use Rattle.bounds_ranges.specs.Laws.{AnswerWords}
use Rattle.bounds_weights.specs.Weight.{flags_of}
use Rattle.bounds.specs.declared.boxes.SourceBox.{SourceBox}
use Rattle.bounds.specs.declared.verdict.Boxes.{Boxes}
use Rattle.bounds.specs.Extents.{extents_of}
use Rattle.loop_ir.specs.declared.expressions.Counter.{Counter}
use Rattle.loop_ir.specs.declared.statements.Phase.{Phase}
use Rattle.loop_ir.specs.declared.statements.Stmt.{Stmt}
use Rattle.loop_ir.specs.Buffers.{Points, put}
use Rattle.loop_ir.specs.Counters.{Values}
use Rattle.loop_ir.specs.Expressions.{linear_value}
use Rattle.loop_ir.specs.LoopLanes.{all_but, all_points}
use Rattle.loop_ir.specs.Running.{run, run_task}
use Rattle.loop_ir.specs.Runs.{point_of}
use Rattle.loop_ir.specs.Soundness.{is_sound}
use Rattle.loop_ir.specs.Stores.{Trace, trace}
use Rattle.lowering_expressions.specs.declared.calls.Corner.{Corner}
use Rattle.lowering_expressions.specs.Lowering.{placed, place as place_in}
use Rattle.lowering.specs.Phases.{DoesPhase}
use Rattle.lowering.specs.Corners.{IsCorner, AreCorners}
use Rattle.lowering.specs.Planes.{held, box_points, with_pure}
use Rattle.schedule_loops.specs.Visits.{owns}

-- ---- which Func it is

abbrev pub is_at_root : FuncPlacement → Bool
is_at_root placement = placement.is_reached && is_root placement.place

-- Funcs that are computed at root aren't private.
abbrev pub RootsAreShared : List FuncPlacement → (ℕ → Bool) → Type 0
RootsAreShared standings is_private = (other : ℕ) (placement : FuncPlacement) → IsReached standings other placement → placement.place ≡ places.Root → is_private other ≡ false

-- The buffers of Funcs that are computed at its loops are private.
abbrev pub ProducedArePrivate : List FuncPlacement → (ℕ → Bool) → ℕ → Type 0
ProducedArePrivate standings is_private consumer = (func_index : ℕ) (placement : FuncPlacement) (at : LoopPosition)
    → IsReached standings func_index placement → placement.place ≡ places.At at → at.func ≡ consumer
    → is_private func_index ≡ true

-- ---- what its phase does

-- From the pixels of the Funcs before it, it leaves those of its pure definition: each task at the points that its iteration visits. What
-- is computed at its loops has buffers of its own.
abbrev pub DoesPure : Pipeline → Schedule → Boxes → ℕ → Func → FuncPlan → SourceBox → Phase → Type 0
DoesPure pipeline schedule boxes func_index func plan source_box phase =
    (is_private : ℕ → Bool) → RootsAreShared schedule.standings is_private → ProducedArePrivate schedule.standings is_private func_index
    → (inputs : Planes) → AnswerWords pipeline.inputs (reads_of inputs (pixels pipeline.funcs inputs 0))
    → DoesPhase (box_points boxes.funcs) is_private func_index
    (held boxes.funcs (pixels pipeline.funcs inputs func_index)) (held boxes.funcs (with_pure pipeline.funcs inputs func_index func))
    phase.tasks (owns (extents_of source_box) plan.pure) (run_task (box_points boxes.funcs) inputs phase)

-- ---- its parts

-- where the loop over a whole variable is
abbrev pub whole_at : Values → ℕ → Variable → ℕ
whole_at values func_index variable = values (record { func = func_index; id = ids.Whole variable }) % 2 ^ 32

-- It writes the value of a pure definition at the point at which the loops over whole variables stand, counted from a corner.
abbrev pub StoresPure : List Corner → (ℕ → Bool) → List Func → ℕ → Corner → Expr → Stmt → Type 0
StoresPure corners flags funcs func_index corner pure statement =
    (points : Points) (inputs : Planes) (values : Values) (buffers : Planes)
    → run points inputs statement values buffers
    ≡ put points func_index (whole_at values func_index variables.FirstArgument)
    (whole_at values func_index variables.SecondArgument)
    (inlined (valuing (placed corners values (reads_of inputs buffers))) flags funcs func_index
    (variable (at_point (word.add (whole_at values func_index variables.FirstArgument) (linear_value values corner.x))
    (word.add (whole_at values func_index variables.SecondArgument) (linear_value values corner.y)))) pure)
    buffers

-- It stores at that point alone, and in that buffer.
abbrev pub HitsPure : ℕ → Stmt → Type 0
HitsPure func_index statement =
    (points : Points) (inputs : Planes) (func x y : ℕ) (values : Values) (so_far : Trace)
    → (trace points inputs func x y statement values so_far).is_stored
    ≡ (so_far.is_stored || (func_index == func && (whole_at values func_index variables.FirstArgument == x && whole_at values func_index variables.SecondArgument == y)))

-- It stores not at a point exactly if it stores at another one, whatever loads are answered.
abbrev pub MissesPure : ℕ → Stmt → Type 0
MissesPure func_index statement =
    (reads : Reads) (x y : ℕ) (values : Values)
    → is_sound reads (all_but (point_of func_index x y)) all_points statement values
    ≡ not (x == whole_at values func_index variables.FirstArgument && y == whole_at values func_index
    variables.SecondArgument)

-- It is sound where that point may be written, and where all that the pure definition reads there may be loaded, counted from the corners.
abbrev pub IsSoundPure : List Corner → (ℕ → Bool) → List Func → ℕ → Corner → Expr → Stmt → Type 0
IsSoundPure corners flags funcs func_index corner pure statement =
    (reads : Reads) (written : Points) (loaded : Point → Bool) (values : Values)
    → written func_index (whole_at values func_index variables.FirstArgument) (whole_at values func_index variables.SecondArgument) ≡ true
    → Hold (λ point. loaded (place_in corners values point))
    (inlined (seeing (placed corners values reads)) flags funcs func_index
    (seen_variable (at_point (word.add (whole_at values func_index variables.FirstArgument)
    (linear_value values corner.x))
    (word.add (whole_at values func_index variables.SecondArgument) (linear_value values corner.y)))) pure).points
    → is_sound reads written loaded statement values ≡ true

-- It does so for the pure definition of a Func with this box that is computed there, where inlined Funcs are put in place, and each buffer
-- begins at its box's corner.
pub record IsStoreOf (pipeline : Pipeline) (schedule : Schedule) (boxes : Boxes) (placed : ComputeLevel) (func_index : ℕ) (func : Func) (source_box : SourceBox) (statement : Stmt) :
    Type 0 where
  pub corners : List Corner
  pub are_corners : AreCorners schedule.funcs boxes.funcs schedule.standings corners
  pub corner : Corner
  pub is_corner : IsCorner schedule.funcs placed source_box corner
  pub stores : StoresPure corners (flagged (flags_of schedule.standings)) pipeline.funcs func_index corner func.pure
      statement
  pub hits : HitsPure func_index statement
  pub misses : MissesPure func_index statement
  pub sound : IsSoundPure corners (flagged (flags_of schedule.standings)) pipeline.funcs func_index corner func.pure
      statement

-- the loops inside the parallel one, which is the outermost, where there is one
abbrev pub inside_of : Option Loop → List Loop → List Loop
inside_of None loops = loops
inside_of (Some own) loops = take (length loops - 1) loops

-- what is at the task's number
abbrev pub counter_of : ℕ → Option Loop → Option Counter
counter_of func_index None = None
counter_of func_index (Some own) = Some (record { func = func_index; id = own.id })

-- the places of inputs of bytes, of which the first has this place
abbrev pub byte_places : ℕ → List Input → List ℕ
byte_places at [] = []
byte_places at (first ∷ others) = if first.is_bytes then at ∷ byte_places (suc at) others else byte_places (suc at) others
