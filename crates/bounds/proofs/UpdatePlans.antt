-- The stages of updates have few splits.
use Rattle.std.proofs.Common.{◌≡◌, ℕ, Some}
use Rattle.std.specs.Prelude.{slice_get}
use Rattle.halide_pipeline.specs.declared.definitions.Func.{Func}
use Rattle.halide_pipeline.specs.declared.definitions.Update.{Update}
use Rattle.schedule_lines.specs.declared.stages.Stage.{Stage}
use Rattle.schedule.specs.declared.plans.FuncPlan.{FuncPlan}
use Rattle.schedule.specs.Accepted.{IsPlan, IsUpdateStage}
use Rattle.schedule_loops.specs.Visits.{AreSplits}
use Rattle.schedule_loops.proofs.AcceptedStages.{pair_at}
use Rattle.schedule_loops.proofs.Few.{few_splits}

pub update_splits : (func : Func) (plan : FuncPlan) → IsPlan func plan → (at : ℕ) (update : Update) (stage : Stage) → slice_get func.updates at ≡ Some update
    → slice_get plan.updates at ≡ Some stage → AreSplits stage.splits
update_splits func plan planned at update stage update_is stage_is = few_splits func (Some update) stage (pair_at (IsUpdateStage func) func.updates plan.updates
    at update stage planned.updates update_is stage_is)
