-- How many words of code the phases of a schedule ask for: no more than 64 for each unit that its stages weigh. A stage's share in the weight
-- is the nodes of its expressions and its loops, in each copy of its code that its unrolled loops make; that of a Func at a loop of a consumer counts
-- in each copy of the code around it too.
-- This project's own.
use Rattle.std.specs.Prelude.{◌≡◌, ◌≤◌, ℕ, zero, suc, ◌+◌, ◌*◌, Bool, if◌then◌else◌, List, [], ◌∷◌, length, slice_get, Option, Some, None}
use Rattle.halide_pipeline.specs.declared.definitions.Func.{Func}
use Rattle.halide_pipeline.specs.declared.definitions.Update.{Update}
use Rattle.halide_pipeline.specs.declared.expressions.Expr.{Expr}
use Rattle.halide_pipeline.specs.Pipelines.{Pipeline}
use Rattle.schedule_lines.specs.declared.stages.Stage.{Stage}
use Rattle.schedule.specs.declared.plans.FuncPlan.{FuncPlan}
use Rattle.schedule.specs.declared.schedules.Schedule.{Schedule}
use Rattle.schedule.specs.declared.placements.FuncPlacement.{FuncPlacement}
use Rattle.bounds_inlining.specs.Inlining.{inlined, flagged, counting}
use Rattle.bounds_weights.specs.Weight.{consumer_copies, flags_of, nodes_in, update_nodes, stage_weight}
use Rattle.loop_ir.specs.declared.expressions.Expr as loop
use Rattle.loop_ir.specs.declared.expressions.Expr.TheVariants as e
use Rattle.loop_ir.specs.declared.statements.Phase.{Phase}
use Rattle.loop_ir.specs.Sizes.{size, whole_size}
use Rattle.lowering_expressions.specs.Sizing.{IsGiven}
use Rattle.lowering.specs.ProducedFuncs.{is_produced}

-- ---- stores

-- the nodes of a definition that calls the first this many Funcs
abbrev pub counted : List Bool → List Func → ℕ → Expr → ℕ
counted flags funcs count expression = inlined counting (flagged flags) funcs count (λ v. 1) expression

abbrev pub second_counted : List Bool → List Func → ℕ → Option Expr → ℕ
second_counted flags funcs count None = 0
second_counted flags funcs count (Some own) = counted flags funcs count own

-- of an update of the Func at a place
abbrev pub update_counted : List Bool → List Func → ℕ → Update → ℕ
update_counted flags funcs func_index update =
    counted flags funcs (func_index + 1) update.right + (counted flags funcs func_index update.left_x + second_counted flags funcs func_index update.left_y)

-- what a second index comes to, which is 0 where none is written
abbrev pub IsGivenIndex : List Bool → List Func → ℕ → Option Expr → loop.Expr → Type 0
IsGivenIndex flags funcs func_index None made = made ≡ e.Number 0
IsGivenIndex flags funcs func_index (Some own) made = IsGiven (size made) (counted flags funcs func_index own)

-- ---- stages

abbrev pub update_share : List Bool → List Func → Option Update → Option Stage → ℕ
update_share flags funcs None stage = 0
update_share flags funcs (Some update) None = 0
update_share flags funcs (Some update) (Some stage) = stage_weight (update_nodes flags funcs update) stage

-- of a Func's pure definition and its first this many updates
abbrev pub shares : List Bool → List Func → Func → FuncPlan → ℕ → ℕ
shares flags funcs func plan zero = stage_weight (nodes_in flags funcs func.pure) plan.pure
shares flags funcs func plan (suc n) = shares flags funcs func plan n + update_share flags funcs (slice_get func.updates n) (slice_get plan.updates n)

abbrev pub func_share : List Bool → List Func → Func → FuncPlan → ℕ
func_share flags funcs func plan = shares flags funcs func plan (length func.updates)

-- ---- Funcs at the loops of a consumer

-- over this many places, from one on
abbrev pub summed : (ℕ → ℕ) → ℕ → ℕ → ℕ
summed f at zero = 0
summed f at (suc n) = f at + summed f (suc at) n

-- in each copy of the code around it
abbrev pub placed_share : List Bool → List Func → List FuncPlan → Func → FuncPlan → FuncPlacement → ℕ
placed_share flags funcs plans func plan placement = func_share flags funcs func plan * consumer_copies plans
    placement.place

abbrev pub produced_share : List Bool → List Func → List FuncPlan → ℕ → Option Func → Option FuncPlan → Option FuncPlacement → ℕ
produced_share flags funcs plans consumer None plan placement = 0
produced_share flags funcs plans consumer (Some func) None placement = 0
produced_share flags funcs plans consumer (Some func) (Some plan) None = 0
produced_share flags funcs plans consumer (Some func) (Some plan) (Some placement) =
    if is_produced consumer placement then placed_share flags funcs plans func plan placement else 0

-- of all Funcs that are computed at loops of the consumer
abbrev pub produced_shares : Pipeline → Schedule → ℕ → ℕ
produced_shares pipeline schedule consumer =
    summed (λ place. produced_share (flags_of schedule.standings) pipeline.funcs schedule.funcs consumer (slice_get pipeline.funcs place)
    (slice_get schedule.funcs place) (slice_get schedule.standings place)) 0 (length schedule.standings)

-- ---- phases

-- what the stage with this number weighs of a Func at root, with the Funcs at the loops of its pure definition
abbrev pub phase_share : Pipeline → Schedule → ℕ → Func → FuncPlan → ℕ → ℕ
phase_share pipeline schedule func_index func plan zero =
    stage_weight (nodes_in (flags_of schedule.standings) pipeline.funcs func.pure) plan.pure
    + produced_shares pipeline schedule func_index
phase_share pipeline schedule func_index func plan (suc at) = update_share (flags_of schedule.standings) pipeline.funcs (slice_get func.updates at)
    (slice_get plan.updates at)

-- Its task has no more words than 64 for each of these, with 24 that stand around it in a program.
abbrev pub IsLight : Pipeline → Schedule → ℕ → Func → FuncPlan → ℕ → Phase → Type 0
IsLight pipeline schedule func_index func plan number phase = whole_size phase.body + 24 ≤ 64 * phase_share pipeline schedule func_index func plan number

-- the words of the tasks of phases, with those around them
abbrev pub words_of : List Phase → ℕ
words_of [] = 0
words_of (phase ∷ phases) = whole_size phase.body + 24 + words_of phases
