-- Which Funcs the output reaches, and where each Func is computed.
--
-- What is wanted of the Func at a place depends on the Funcs after it alone, since a Func is called by later ones.
-- This project's own.
use Rattle.std.specs.Prelude.{ℕ, ◌+◌, Bool, true, false, not, ◌&&◌, ◌||◌, ◌==◌, nat_lt, if◌then◌else◌, List, [], ◌∷◌, length, slice_get, Option, Some, None}
use Rattle.halide_pipeline.specs.declared.expressions.Source.{Source}
use Rattle.halide_pipeline.specs.declared.expressions.Source.TheVariants as sources
use Rattle.halide_pipeline.specs.Pipelines.{Pipeline, lookup}
use Rattle.halide_pipeline.specs.declared.definitions.Func.{Func}
use Rattle.halide_pipeline.specs.declared.definitions.Update.{Update}
use Rattle.halide_pipeline.specs.declared.expressions.Expr.{Expr, fold-Expr}
use Rattle.halide_pipeline.specs.declared.expressions.Expr.TheOpen.{Expr-F}
use Rattle.schedule_lines.specs.declared.lines.Computed.{Computed}
use Rattle.schedule_lines.specs.declared.lines.Computed.TheVariants as computed
use Rattle.schedule_lines.specs.declared.lines.LoopNames.{LoopNames}
use Rattle.schedule_lines.specs.declared.stages.Loop.{Loop}
use Rattle.schedule_lines.specs.declared.stages.LoopId.{LoopId}
use Rattle.schedule.specs.declared.plans.ComputeLine.{ComputeLine}
use Rattle.schedule.specs.declared.plans.FuncPlan.{FuncPlan}
use Rattle.schedule.specs.declared.placements.LoopPosition.{LoopPosition}
use Rattle.schedule.specs.declared.placements.ComputeLevel.{ComputeLevel}
use Rattle.schedule_lines.specs.declared.stages.Mark.TheVariants as marks
use Rattle.schedule_lines.specs.Directives.{find, is_marked, same_id}
use Rattle.schedule.specs.declared.placements.ComputeLevel.TheVariants as places
use Rattle.schedule.specs.declared.placements.FuncPlacement.{FuncPlacement}
use Rattle.halide_pipeline.specs.declared.expressions.Expr.TheOpen as layer

-- ---- Which Funcs a definition calls, in its text.

abbrev pub is_func : ℕ → Source → Bool
is_func func (sources.Input place) = false
is_func func (sources.Func place) = place == func

abbrev pub calls_at : ℕ → Expr-F Bool → Bool
calls_at func (layer.Number n) = false
calls_at func (layer.Variable own) = false
calls_at func (layer.Binary op a b) = a || b
calls_at func (layer.Divide a c) = a
calls_at func (layer.Remainder a c) = a
calls_at func (layer.Select c a b) = c || a || b
calls_at func (layer.Call1 s a) = is_func func s || a
calls_at func (layer.Call2 s a b) = is_func func s || a || b

-- An expression calls the Func at this place.
unfoldable pub calls : ℕ → Expr → Bool
calls func e = fold-Expr Bool (calls_at func) e

abbrev pub second_calls : ℕ → Option Expr → Bool
second_calls func None = false
second_calls func (Some e) = calls func e

abbrev pub update_calls : ℕ → Update → Bool
update_calls func update = calls func update.left_x || second_calls func update.left_y || calls func update.right

abbrev pub updates_call : ℕ → List Update → Bool
updates_call func [] = false
updates_call func (first ∷ others) = update_calls func first || updates_call func others

-- A Func calls another, in its pure definition or in its updates.
unfoldable pub func_calls : ℕ → Func → Bool
func_calls func own_func = calls func own_func.pure || updates_call func own_func.updates

abbrev pub place_calls_of : ℕ → Option Func → Bool
place_calls_of func None = false
place_calls_of func (Some own) = func_calls func own

-- The Func at a place calls the Func at another.
unfoldable pub place_calls : Pipeline → ℕ → ℕ → Bool
place_calls pipeline from func = place_calls_of func (slice_get pipeline.funcs from)

-- ---- reads

-- One of the Funcs from a place on that the output reaches calls this Func.
abbrev pub is_read : Pipeline → ℕ → ℕ → List FuncPlacement → Bool
is_read pipeline func at [] = false
is_read pipeline func at (first ∷ behind) =
    (first.is_reached && place_calls pipeline at func) || is_read pipeline func (at + 1) behind

-- One of the Funcs from a place on that are flagged calls this Func.
abbrev pub is_called : Pipeline → ℕ → ℕ → List Bool → Bool
is_called pipeline func at [] = false
is_called pipeline func at (first ∷ behind) =
    (first && place_calls pipeline at func) || is_called pipeline func (at + 1) behind

-- ---- the loop that a compute_at line names: one of the pure definition of a later Func that is at root and has
-- no updates, and not vectorized

abbrev pub is_root_computed : Computed → Bool
is_root_computed computed.Root = true
is_root_computed (computed.At names) = false

abbrev pub is_root_line : Option ComputeLine → Bool
is_root_line None = false
is_root_line (Some own) = is_root_computed own.computed

-- The Func at a place is computed as a whole, before any use: the output, and those that a line says so of.
abbrev pub is_root : Pipeline → ℕ → FuncPlan → Bool
is_root pipeline func plan = func == pipeline.output.func || is_root_line plan.compute

abbrev pub unvectorized : ℕ → Option Loop → Option LoopPosition
unvectorized func None = None
unvectorized func (Some own) = if is_marked marks.Vectorized own then None else Some (record { func = func; inside = own.id })

abbrev pub is_consumer : Pipeline → ℕ → FuncPlan → Bool
is_consumer pipeline func plan = is_root pipeline func plan && length plan.updates == 0

abbrev pub loop_in : Pipeline → ℕ → List ℕ → FuncPlan → Option LoopPosition
loop_in pipeline func name plan = if is_consumer pipeline func plan then unvectorized func (find name plan.pure.loops) else None

abbrev pub loop_of : Pipeline → ℕ → List ℕ → Option FuncPlan → Option LoopPosition
loop_of pipeline func name None = None
loop_of pipeline func name (Some plan) = loop_in pipeline func name plan

abbrev pub consumer_of : Pipeline → List FuncPlan → ℕ → List ℕ → Option Source → Option LoopPosition
consumer_of pipeline plans at name None = None
consumer_of pipeline plans at name (Some (sources.Input place)) = None
consumer_of pipeline plans at name (Some (sources.Func func)) = if nat_lt at func then loop_of pipeline func name (slice_get plans func) else None

-- the loop with these names, of a Func after the one at a place
abbrev pub consumer : Pipeline → List FuncPlan → ℕ → LoopNames → Option LoopPosition
consumer pipeline plans at names = consumer_of pipeline plans at names.inside (lookup names.func pipeline.names)

-- ---- uses outside of a loop

-- The first loop is met no later than the second, going outward.
abbrev pub comes_first : LoopId → LoopId → List Loop → Bool
comes_first loop_id other [] = false
comes_first loop_id other (first ∷ outside) =
    if same_id first.id loop_id then true
    else if same_id first.id other then false
    else comes_first loop_id other outside

abbrev pub pure_loops_of : Option FuncPlan → List Loop
pure_loops_of None = []
pure_loops_of (Some plan) = plan.pure.loops

-- A loop is the other or is inside it.
abbrev pub is_within : List FuncPlan → LoopPosition → LoopPosition → Bool
is_within plans other position = position.func == other.func && comes_first position.inside other.inside (pure_loops_of (slice_get plans position.func))

-- The uses that a Func makes stand outside of a loop. Those of an inlined Func stand where others call it, and those
-- of a Func computed at a loop stand there.
abbrev pub is_away : Pipeline → List FuncPlan → LoopPosition → ℕ → ComputeLevel → List Bool → Bool
is_away pipeline plans consumer at places.Inlined behind = is_called pipeline at (at + 1) behind
is_away pipeline plans consumer at (places.At own) behind = not (is_within plans consumer own)
is_away pipeline plans consumer at places.Root behind = true
is_away pipeline plans consumer at places.Nowhere behind = true

abbrev pub is_outside : Pipeline → List FuncPlan → LoopPosition → ℕ → FuncPlacement → List Bool → Bool
is_outside pipeline plans consumer at placement behind = placement.is_reached && (not (at == consumer.func) && is_away pipeline plans consumer at placement.place behind)

-- of the Funcs from a place on, whether the output reaches each and the uses that it makes stand outside of a loop
abbrev pub outside : Pipeline → List FuncPlan → LoopPosition → ℕ → List FuncPlacement → List Bool
outside pipeline plans consumer at [] = []
outside pipeline plans consumer at (first ∷ others) =
    let behind = outside pipeline plans consumer (at + 1) others in
    is_outside pipeline plans consumer at first behind ∷ behind

-- ---- where a Func is computed

-- At the loop that its line names, if no use is outside of it.
abbrev pub place_at : Pipeline → List FuncPlan → ℕ → List FuncPlacement → Option LoopPosition → ComputeLevel
place_at pipeline plans at behind None = places.Nowhere
place_at pipeline plans at behind (Some own) =
    if is_called pipeline at (at + 1) (outside pipeline plans own (at + 1) behind) then places.Nowhere else places.At own

abbrev pub place_computed : Pipeline → List FuncPlan → ℕ → List FuncPlacement → Computed → ComputeLevel
place_computed pipeline plans at behind computed.Root = places.Root
place_computed pipeline plans at behind (computed.At names) = place_at pipeline plans at behind (consumer pipeline plans at names)

abbrev pub place_of : Pipeline → List FuncPlan → ℕ → List FuncPlacement → Option ComputeLine → ComputeLevel
place_of pipeline plans at behind None = places.Inlined
place_of pipeline plans at behind (Some line) = place_computed pipeline plans at behind line.computed

-- The output is at root.
abbrev pub place : Pipeline → List FuncPlan → ℕ → FuncPlan → List FuncPlacement → ComputeLevel
place pipeline plans at plan behind = if at == pipeline.output.func then places.Root else place_of pipeline plans at behind plan.compute

-- The output is reached, and what a Func calls that is reached.
abbrev pub is_reached : Pipeline → ℕ → List FuncPlacement → Bool
is_reached pipeline at behind = at == pipeline.output.func || is_read pipeline at (at + 1) behind

abbrev pub standing : Pipeline → List FuncPlan → ℕ → FuncPlan → List FuncPlacement → FuncPlacement
standing pipeline plans at plan behind = record { is_reached = is_reached pipeline at behind; place = place pipeline plans at plan behind }

-- of the Funcs from a place on
abbrev pub standings_from : Pipeline → List FuncPlan → ℕ → List FuncPlan → List FuncPlacement
standings_from pipeline plans at [] = []
standings_from pipeline plans at (first ∷ others) =
    let behind = standings_from pipeline plans (at + 1) others in
    standing pipeline plans at first behind ∷ behind

unfoldable pub standings : Pipeline → List FuncPlan → List FuncPlacement
standings pipeline plans = standings_from pipeline plans 0 plans
