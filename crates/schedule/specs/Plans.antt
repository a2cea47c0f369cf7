-- The stages of each Func, their loops before any line, and how a line changes one of them.
--
-- The loops of a stage stand innermost first: of a pure definition its arguments; of an update its reduction
-- variables, then its arguments in place.
-- This project's own.
use Rattle.std.specs.Prelude.{ℕ, true, false, if◌then◌else◌, List, [], ◌∷◌, ◌++◌, map, slice_get, slice_set, Option, Some, None}
use Rattle.halide_pipeline.specs.declared.definitions.Func.{Func}
use Rattle.halide_pipeline.specs.declared.definitions.Reduction.{Reduction}
use Rattle.halide_pipeline.specs.declared.definitions.Update.{Update}
use Rattle.halide_pipeline.specs.declared.expressions.Variable.{Variable}
use Rattle.halide_pipeline.specs.declared.expressions.Variable.TheVariants as variables
use Rattle.halide_pipeline.specs.WellFormed.{is_first_in_place, is_second_in_place}
use Rattle.schedule.specs.declared.plans.ComputeLine.{ComputeLine}
use Rattle.schedule.specs.declared.plans.FuncPlan.{FuncPlan}
use Rattle.schedule_lines.specs.declared.stages.Loop.{Loop}
use Rattle.schedule_lines.specs.declared.stages.LoopId.TheVariants as ids
use Rattle.schedule_lines.specs.declared.stages.Stage.{Stage}

-- one more loop, over a whole variable
abbrev pub with_loop : List Loop → List ℕ → Variable → List Loop
with_loop loops name variable =
    loops ++ record { id = ids.Whole variable; name = name; variable = variable; inner_of = None; is_from_shift = false; marked = None } ∷ []

abbrev pub with_second : List Loop → Option (List ℕ) → Variable → List Loop
with_second loops None variable = loops
with_second loops (Some name) variable = with_loop loops name variable

abbrev pub with_reduction : List Loop → Option Reduction → List Loop
with_reduction loops None = loops
with_reduction loops (Some reduction) = with_loop loops reduction.name variables.SecondReduction

abbrev pub pure_loops : Func → List Loop
pure_loops func = with_second (with_loop [] func.first_argument variables.FirstArgument) func.second_argument variables.SecondArgument

abbrev pub reduction_loops : Update → List Loop
reduction_loops update = with_reduction (with_loop [] update.first.name variables.FirstReduction) update.second

abbrev pub with_first_in_place : Func → Update → List Loop → List Loop
with_first_in_place func update loops = if is_first_in_place update then with_loop loops func.first_argument variables.FirstArgument else loops

abbrev pub with_second_in_place : Func → Update → List Loop → List Loop
with_second_in_place func update loops = if is_second_in_place update then with_second loops func.second_argument variables.SecondArgument else loops

abbrev pub update_loops : Func → Update → List Loop
update_loops func update = with_second_in_place func update (with_first_in_place func update (reduction_loops update))

abbrev pub update_stage : Func → Update → Stage
update_stage func update = record { loops = update_loops func update; splits = [] }

-- a Func before any line
abbrev pub plan_of : Func → FuncPlan
plan_of func = record {
  compute = None;
  is_directed = false;
  pure = record { loops = pure_loops func; splits = [] };
  updates = map (update_stage func) func.updates;
}

-- the stage of a Func's pure definition, or of one of its updates
abbrev pub stage : FuncPlan → Option ℕ → Option Stage
stage plan None = Some plan.pure
stage plan (Some at) = slice_get plan.updates at

-- a stage is changed by a line
abbrev pub with_stage : FuncPlan → Option ℕ → Stage → FuncPlan
with_stage plan None new = record { compute = plan.compute; is_directed = true; pure = new; updates = plan.updates }
with_stage plan (Some at) new = record { compute = plan.compute; is_directed = true; pure = plan.pure; updates = slice_set plan.updates at new }

abbrev pub with_compute : FuncPlan → ComputeLine → FuncPlan
with_compute plan compute = record { compute = Some compute; is_directed = plan.is_directed; pure = plan.pure; updates = plan.updates }
