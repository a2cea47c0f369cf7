-- What is compiled: a pipeline, a schedule that is accepted for it, and its boxes.
-- This project's own.
use Rattle.std.specs.Prelude.{◌≡◌, Ok}
use Rattle.halide_pipeline.specs.Pipelines.{Pipeline}
use Rattle.schedule.specs.Accepted.{IsAccepted}
use Rattle.schedule.specs.declared.schedules.Schedule.{Schedule}
use Rattle.bounds.specs.Verdict.{inferred}
use Rattle.bounds.specs.declared.verdict.Boxes.{Boxes}

pub record PlanContents : Type 0 where
  pub pipeline : Pipeline
  pub schedule : Schedule
  pub boxes : Boxes

-- The schedule is accepted, and the boxes are those that are inferred.
pub record IsPlan (plan_contents : PlanContents) : Type 0 where
  pub accepted : IsAccepted plan_contents.pipeline plan_contents.schedule
  pub boxes : inferred plan_contents.pipeline plan_contents.schedule ≡ Ok plan_contents.boxes
