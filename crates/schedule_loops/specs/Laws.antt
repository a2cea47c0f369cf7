-- What holds of every stage that lines make, and of every one that is accepted.
-- This project's own.
use Rattle.std.specs.Prelude.{◌≡◌, ◌<◌, ◌++◌, ℕ, ◌+◌, true, false, if◌then◌else◌, List, [], ◌∷◌, map, Contains, slice_get, Option, Some, None}
use Rattle.std.specs.List.{AllByRecursion}
use Rattle.halide_pipeline.specs.declared.definitions.Func.{Func}
use Rattle.halide_pipeline.specs.declared.definitions.Update.{Update}
use Rattle.halide_pipeline.specs.declared.expressions.Variable.{Variable}
use Rattle.schedule_lines.specs.declared.stages.Loop.{Loop}
use Rattle.schedule_lines.specs.declared.stages.LoopId.TheVariants as ids
use Rattle.schedule_lines.specs.declared.stages.Split.{Split}
use Rattle.schedule_lines.specs.declared.stages.Stage.{Stage}
use Rattle.schedule.specs.declared.plans.FuncPlan.{FuncPlan}
use Rattle.schedule.specs.declared.placements.FuncPlacement.{FuncPlacement}
use Rattle.schedule.specs.Accepted.{IsPlan, IsLegal}
use Rattle.schedule_loops.specs.declared.extents.Extents.{Extents}
use Rattle.schedule_loops.specs.Visits.{Values, with, counts, extent_of, shifts_fit, AreSplits, Visit, nest, over_loops, zeros, upto, visit_of, visits, slice}
use Rattle.schedule_loops.specs.Visits.{rising, parallel, visits_in, iteration_count, points_written, in_order, IsOrder, HasOwner}
use Rattle.schedule_loops.specs.Reach.{base, AgreeWhereUneven, has_uneven, wholes, IsReached}
use Rattle.schedule_loops.specs.Runs.{AreIterations}
use Rattle.schedule_loops.specs.Stages.{IsStageOf, KeepsRules, IsVisitOf, first_loops, has_variable, is_slice_of, points_of}

-- Where the output reaches a Func, an accepted schedule has such stages for its pure definition and for each of its updates.
abbrev pub AcceptedStages : Type 0
AcceptedStages = (func : Func) (plan : FuncPlan) (placement : FuncPlacement) → IsPlan func plan → IsLegal plan placement → placement.is_reached ≡ true
    → (IsStageOf func None plan.pure × KeepsRules plan.pure)
    × ((at : ℕ) (update : Update) (stage : Stage) → slice_get func.updates at ≡ Some update → slice_get plan.updates at ≡ Some stage
    → IsStageOf func (Some update) stage × KeepsRules stage)

-- The splits of a stage are few, and their factors small.
abbrev pub StagesHaveFewSplits : Type 0
StagesHaveFewSplits = (func : Func) (update : Option Update) (stage : Stage)
    → IsStageOf func update stage → AreSplits stage.splits

-- Each visit of a stage is one of its slices and reduction points.
abbrev pub VisitsLieWithin : Type 0
VisitsLieWithin = (func : Func) (update : Option Update) (extents : Extents) (stage : Stage)
    → IsStageOf func update stage
    → AllByRecursion (IsVisitOf func update extents) (visits extents stage)

-- Whatever lines make of an update, each slice that there is sees all its reduction points, once each and in rising order, and no other
-- does.
abbrev pub UpdatesKeepTheirOrder : Type 0
UpdatesKeepTheirOrder = (func : Func) (update : Update) (extents : Extents) (stage : Stage)
    → IsStageOf func (Some update) stage
    → (x y : ℕ)
    → slice x y (visits extents stage)
    ≡ rising x y 0 (if is_slice_of func (Some update) extents x y then points_of func (Some update) extents else 0)

-- A pure definition is visited at each point of its box, if each shifted split has a whole iteration.
abbrev pub PureStagesCover : Type 0
PureStagesCover = (func : Func) (extents : Extents) (stage : Stage)
    → IsStageOf func None stage → shifts_fit extents stage.splits ≡ true
    → (x y : ℕ) → is_slice_of func None extents x y ≡ true
    → Contains (visits extents stage) (record { x = x; y = y; number = 0 })

-- The iterations of an accepted stage in rising order are all that it visits.
abbrev pub IterationsAreAll : Type 0
IterationsAreAll = (func : Func) (update : Option Update) (extents : Extents) (stage : Stage)
    → IsStageOf func update stage → KeepsRules stage
    → visits extents stage ≡ upto (iteration_count extents stage) (visits_in extents stage)

-- A task is what the loops inside the parallel one list in one of its iterations.
abbrev pub IterationsAreNests : Type 0
IterationsAreNests = (func : Func) (update : Option Update) (extents : Extents) (stage : Stage) (inside : List Loop) (stage_loop : Loop)
    → IsStageOf func update stage
    → stage.loops ≡ inside ++ stage_loop ∷ [] → parallel stage ≡ Some stage_loop
    → (number : ℕ) → number < counts extents stage.splits stage_loop.id
    → visits_in extents stage number
    ≡ nest (counts extents stage.splits) inside (over_loops extents stage.splits (λ whole. visit_of extents whole ∷ [])) (with stage_loop.id number zeros)

-- Each slice belongs to one iteration: so iterations of a pure definition visit points apart, and those of an update slices apart.
abbrev pub IterationsAreApart : Type 0
IterationsAreApart = (func : Func) (update : Option Update) (extents : Extents) (stage : Stage)
    → IsStageOf func update stage → KeepsRules stage
    → (x y : ℕ) → is_slice_of func update extents x y ≡ true
    → HasOwner (iteration_count extents stage) (visits_in extents stage) x y

-- Iterations write points apart, where the left side names points apart at visits of slices apart, as a pure definition's does.
abbrev pub IterationsWriteApart : Type 0
IterationsWriteApart = (func : Func) (update : Option Update) (extents : Extents) (stage : Stage)
    → IsStageOf func update stage → KeepsRules stage
    → (left : Visit → ℕ × ℕ)
    → ((one other : Visit) → IsVisitOf func update extents one → IsVisitOf func update extents other
    → left one ≡ left other → (one.x ≡ other.x) × (one.y ≡ other.y))
    → (first second : ℕ) → first < iteration_count extents stage → second < iteration_count extents stage
    → (point : ℕ × ℕ)
    → Contains (points_written left extents stage first) point → Contains (points_written left extents stage second) point
    → first ≡ second

-- In whatever order the iterations are done, each slice sees what it sees in rising order.
abbrev pub IterationsInAnyOrder : Type 0
IterationsInAnyOrder = (func : Func) (update : Option Update) (extents : Extents) (stage : Stage)
    → IsStageOf func update stage → KeepsRules stage
    → (order : List ℕ) → IsOrder (iteration_count extents stage) order
    → (x y : ℕ) → slice x y (in_order (visits_in extents stage) order) ≡ slice x y (visits extents stage)

-- While the loops outside are in given iterations, those inside visit values of a variable that lie in its extent; and between a base and
-- what the loops inside can add to it, unless an uneven loop is among those outside.
abbrev pub VariablesAreReached : Type 0
VariablesAreReached = (func : Func) (update : Option Update) (extents : Extents) (stage : Stage) (inside outside : List Loop) (variable : Variable)
    (iterations : Values)
    → IsStageOf func update stage
    → stage.loops ≡ inside ++ outside → has_variable variable (first_loops func update) ≡ true
    → AreIterations (counts extents stage.splits) outside iterations
    → AllByRecursion (λ whole. whole (ids.Whole variable) < extent_of extents variable) (wholes extents stage.splits inside iterations)
    × (has_uneven stage.splits variable outside ≡ false
    → AllByRecursion (IsReached extents stage.splits variable inside outside iterations) (wholes extents stage.splits inside iterations))

-- Where uneven loops are in the same iterations, the values of a variable differ as the bases of all loops do: each iteration of an even loop
-- takes the variable its stride further.
abbrev pub EvenLoopsStep : Type 0
EvenLoopsStep = (func : Func) (update : Option Update) (extents : Extents) (stage : Stage) (variable : Variable) (one_iterations other_iterations one other : Values)
    → IsStageOf func update stage
    → has_variable variable (first_loops func update) ≡ true
    → AreIterations (counts extents stage.splits) stage.loops one_iterations
    → AreIterations (counts extents stage.splits) stage.loops other_iterations
    → AgreeWhereUneven stage.splits stage.loops one_iterations other_iterations
    → over_loops extents stage.splits (λ whole. whole ∷ []) one_iterations ≡ one ∷ []
    → over_loops extents stage.splits (λ whole. whole ∷ []) other_iterations ≡ other ∷ []
    → one (ids.Whole variable) + base stage.splits variable other_iterations stage.loops
    ≡ other (ids.Whole variable) + base stage.splits variable one_iterations stage.loops

-- What loops visit is seen from the values of whole variables that they visit.
abbrev pub VisitsAreOfWholes : Type 0
VisitsAreOfWholes = (extents : Extents) (splits : List Split) (inside : List Loop) (iterations : Values)
    → nest (counts extents splits) inside (over_loops extents splits (λ whole. visit_of extents whole ∷ [])) iterations
    ≡ map (visit_of extents) (wholes extents splits inside iterations)

-- A visit is one that the loops inside make while those outside are in some iterations.
pub record IsMadeIn (extents : Extents) (stage : Stage) (inside outside : List Loop) (visit : Visit) : Type 0 where
  pub iterations : Values
  pub are : AreIterations (counts extents stage.splits) outside iterations
  pub whole : Values
  pub visited : Contains (wholes extents stage.splits inside iterations) whole
  pub visit_is : visit_of extents whole ≡ visit

-- Each visit of a stage is, wherever its loops are parted into those inside and those outside.
abbrev pub VisitsAreMade : Type 0
VisitsAreMade = (extents : Extents) (stage : Stage) (inside outside : List Loop) → stage.loops ≡ inside ++ outside
    → (visit : Visit) → Contains (visits extents stage) visit → IsMadeIn extents stage inside outside visit
