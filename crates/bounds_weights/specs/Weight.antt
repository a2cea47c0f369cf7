-- How much code a schedule asks for, and how many registers its expressions need.
--
-- A stage weighs the nodes of its expressions, with their inlined Funcs put in place, and one for each of its loops, in each copy of its
-- code. Of an update the indexes on the left count beside the right side.
-- This project's own.
use Rattle.std.specs.Prelude.{◌≤◌, ◌<◌, ℕ, ◌+◌, ◌*◌, Bool, not, ◌&&◌, if◌then◌else◌, List, [], ◌∷◌, length, Option, Some, None, Result, Ok, Err, slice_get}
use Rattle.std.specs.Prelude.{false, ◌==◌, ◌||◌, nat_lt, max}
use Rattle.halide_pipeline.specs.declared.definitions.Func.{Func}
use Rattle.halide_pipeline.specs.declared.definitions.Update.{Update}
use Rattle.halide_pipeline.specs.declared.expressions.Expr.{Expr}
use Rattle.halide_pipeline.specs.Pipelines.{Pipeline}
use Rattle.schedule_lines.specs.declared.stages.Stage.{Stage}
use Rattle.schedule_lines.specs.declared.stages.Loop.{Loop}
use Rattle.schedule_lines.specs.declared.stages.LoopId.{LoopId}
use Rattle.schedule.specs.declared.plans.FuncPlan.{FuncPlan}
use Rattle.schedule.specs.declared.schedules.Schedule.{Schedule}
use Rattle.schedule.specs.declared.placements.FuncPlacement.{FuncPlacement}
use Rattle.schedule.specs.Legal.{is_inlined}
use Rattle.schedule.specs.declared.placements.ComputeLevel.{ComputeLevel}
use Rattle.bounds_inlining.specs.Inlining.{inlined, flagged, counting, needing}
use Rattle.bounds_weights.specs.declared.faults.WeightError.{WeightError}
use Rattle.bounds_weights.specs.declared.faults.WeightError.TheVariants as errors
use Rattle.bounds_weights.specs.declared.stage_needs.StageNeeds.{StageNeeds}
use Rattle.schedule_lines.specs.declared.stages.Mark.TheVariants as marks
use Rattle.schedule_lines.specs.Directives.{is_marked, same_id, find_marked}
use Rattle.schedule.specs.declared.placements.ComputeLevel.TheVariants as places
use Rattle.schedule.specs.Placements.{pure_loops_of}

-- ---- How many copies of a stage's code stand one after the other, since loops around it are unrolled.

abbrev pub factor_of : Option ℕ → ℕ
factor_of None = 1
factor_of (Some factor) = factor

-- An unrolled loop is the inner one of a split: a copy for each of its iterations.
abbrev pub copies : Loop → ℕ
copies stage_loop = if is_marked marks.Unrolled stage_loop then factor_of stage_loop.inner_of else 1

abbrev pub all_copies : List Loop → ℕ
all_copies [] = 1
all_copies (first ∷ outside) = copies first * all_copies outside

-- of a loop and those outside of it
abbrev pub copies_from : LoopId → List Loop → ℕ
copies_from id [] = 1
copies_from id (first ∷ outside) = if same_id first.id id then copies first * all_copies outside else copies_from id outside

-- of the loop at which a Func is computed and those outside of it
abbrev pub consumer_copies : List FuncPlan → ComputeLevel → ℕ
consumer_copies plans places.Inlined = 1
consumer_copies plans places.Root = 1
consumer_copies plans (places.At consumer) = copies_from consumer.inside (pure_loops_of (slice_get plans consumer.func))
consumer_copies plans places.Nowhere = 1

-- ---- weight

-- All stages together weigh no more than this.
abbrev pub most_weight : ℕ
most_weight = 4096

-- which Funcs are inlined
abbrev pub flags_of : List FuncPlacement → List Bool
flags_of [] = []
flags_of (own ∷ others) = is_inlined own.place ∷ flags_of others

-- A Func is computed that the output reaches and that isn't inlined.
abbrev pub is_computed : FuncPlacement → Bool
is_computed placement = placement.is_reached && not (is_inlined placement.place)

-- ---- nodes

abbrev pub nodes_in : List Bool → List Func → Expr → ℕ
nodes_in flags funcs e = inlined counting (flagged flags) funcs (length funcs) (λ v. 1) e

abbrev pub second_nodes : List Bool → List Func → Option Expr → ℕ
second_nodes flags funcs None = 0
second_nodes flags funcs (Some e) = nodes_in flags funcs e

abbrev pub update_nodes : List Bool → List Func → Update → ℕ
update_nodes flags funcs update = nodes_in flags funcs update.right + (nodes_in flags funcs update.left_x + second_nodes flags funcs update.left_y)

-- ---- stages

-- a stage whose expressions have this many nodes
abbrev pub stage_weight : ℕ → Stage → ℕ
stage_weight nodes stage = (nodes + length stage.loops) * all_copies stage.loops

abbrev pub updates_weight : List Bool → List Func → List Update → List Stage → ℕ
updates_weight flags funcs [] stages = 0
updates_weight flags funcs (update ∷ updates) [] = 0
updates_weight flags funcs (update ∷ updates) (stage ∷ stages) =
    stage_weight (update_nodes flags funcs update) stage + updates_weight flags funcs updates stages

-- all stages of a Func, in each copy of the code around them
abbrev pub func_weight : List Bool → List Func → List FuncPlan → Func → FuncPlan → FuncPlacement → ℕ
func_weight flags funcs plans func plan placement =
    (stage_weight (nodes_in flags funcs func.pure) plan.pure + updates_weight flags funcs func.updates plan.updates) * consumer_copies plans placement.place

abbrev pub computed_weight : List Bool → List Func → List FuncPlan → Func → FuncPlan → FuncPlacement → ℕ
computed_weight flags funcs plans func plan placement = if is_computed placement then func_weight flags funcs plans func plan placement else 0

-- all Funcs that are computed, each with its plan and what becomes of it
abbrev pub funcs_weight : List Bool → List Func → List FuncPlan → List Func → List FuncPlan → List FuncPlacement → ℕ
funcs_weight flags funcs plans [] rest standings = 0
funcs_weight flags funcs plans (func ∷ others) [] standings = 0
funcs_weight flags funcs plans (func ∷ others) (plan ∷ rest) [] = 0
funcs_weight flags funcs plans (func ∷ others) (plan ∷ rest) (own ∷ standings) =
    computed_weight flags funcs plans func plan own + funcs_weight flags funcs plans others rest standings

unfoldable pub weight : Pipeline → Schedule → ℕ
weight pipeline schedule = funcs_weight (flags_of schedule.standings) pipeline.funcs schedule.funcs pipeline.funcs schedule.funcs schedule.standings

-- ---- the judgement

abbrev pub number_of : WeightError → Option ℕ
number_of errors.TooHeavy = Some 1
number_of errors.OutOfMemory = None

-- Stages of this weight are let pass exactly where they aren't too heavy, want of memory aside.
abbrev pub Judges : {A : Type 0} → ℕ → Result A WeightError → Type 0
Judges weight (Ok passed) = weight ≤ most_weight
Judges weight (Err errors.TooHeavy) = most_weight < weight
Judges weight (Err errors.OutOfMemory) = Unit {0}

-- ---- the need of a stage: of its right side and, of an update, its left indexes

abbrev pub need_in : List Bool → List Func → Expr → ℕ
need_in flags funcs e = inlined needing (flagged flags) funcs (length funcs) (λ v. 1) e

abbrev pub second_need : List Bool → List Func → Option Expr → ℕ
second_need flags funcs None = 0
second_need flags funcs (Some e) = need_in flags funcs e

abbrev pub update_need : List Bool → List Func → Update → ℕ
update_need flags funcs update = max (need_in flags funcs update.right) (max (need_in flags funcs update.left_x) (second_need flags funcs update.left_y))

abbrev pub update_need_of : List Bool → List Func → Option Update → ℕ
update_need_of flags funcs None = 0
update_need_of flags funcs (Some update) = update_need flags funcs update

-- of the pure definition, or of the update at a place
abbrev pub stage_need : List Bool → List Func → Func → Option ℕ → ℕ
stage_need flags funcs func None = need_in flags funcs func.pure
stage_need flags funcs func (Some at) = update_need_of flags funcs (slice_get func.updates at)

-- ---- all stages that are computed

abbrev pub has_factor : ℕ → Option ℕ → Bool
has_factor factor None = false
has_factor factor (Some own) = own == factor

abbrev pub is_inner_of : ℕ → Option Loop → Bool
is_inner_of factor None = false
is_inner_of factor (Some own) = has_factor factor own.inner_of

-- Its vectorized loop has 16 iterations.
abbrev pub is_by_16 : Stage → Bool
is_by_16 stage = is_inner_of 16 (find_marked marks.Vectorized stage.loops)

abbrev pub no_needs : StageNeeds
no_needs = record { greatest = 0; greatest_by_16 = 0 }

abbrev pub needs_of : ℕ → Stage → StageNeeds
needs_of need stage = record { greatest = need; greatest_by_16 = if is_by_16 stage then need else 0 }

abbrev pub both : StageNeeds → StageNeeds → StageNeeds
both a b = record { greatest = max a.greatest b.greatest; greatest_by_16 = max a.greatest_by_16 b.greatest_by_16 }

abbrev pub updates_needs : List Bool → List Func → List Update → List Stage → StageNeeds
updates_needs flags funcs [] stages = no_needs
updates_needs flags funcs (update ∷ updates) [] = no_needs
updates_needs flags funcs (update ∷ updates) (stage ∷ stages) =
    both (needs_of (update_need flags funcs update) stage) (updates_needs flags funcs updates stages)

abbrev pub func_needs : List Bool → List Func → Func → FuncPlan → StageNeeds
func_needs flags funcs func plan = both (needs_of (need_in flags funcs func.pure) plan.pure) (updates_needs flags funcs func.updates plan.updates)

abbrev pub computed_needs : List Bool → List Func → Func → FuncPlan → FuncPlacement → StageNeeds
computed_needs flags funcs func plan placement = if is_computed placement then func_needs flags funcs func plan else
    no_needs

abbrev pub funcs_needs : List Bool → List Func → List Func → List FuncPlan → List FuncPlacement → StageNeeds
funcs_needs flags funcs [] plans standings = no_needs
funcs_needs flags funcs (func ∷ others) [] standings = no_needs
funcs_needs flags funcs (func ∷ others) (plan ∷ plans) [] = no_needs
funcs_needs flags funcs (func ∷ others) (plan ∷ plans) (own ∷ standings) =
    both (computed_needs flags funcs func plan own) (funcs_needs flags funcs others plans standings)

-- the greatest need of any, and the greatest of one that is vectorized by 16
unfoldable pub needs : Pipeline → Schedule → StageNeeds
needs pipeline schedule = funcs_needs (flags_of schedule.standings) pipeline.funcs pipeline.funcs schedule.funcs schedule.standings

-- ---- limits

-- No code is made for a need above 64.
abbrev pub is_too_deep : StageNeeds → Bool
is_too_deep own_stage_needs = nat_lt 64 own_stage_needs.greatest

-- What doesn't fit the registers is in frames, one for each hart: a need above 12, or above 6 where each register
-- of a stage is four.
abbrev pub has_frames : StageNeeds → Bool
has_frames own_stage_needs = nat_lt 12 own_stage_needs.greatest || nat_lt 6 own_stage_needs.greatest_by_16
