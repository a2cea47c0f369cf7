-- Why an algorithm under a schedule isn't compiled: the first fault that there is. Judged are, in this order, the algorithm's text, the
-- schedule's, how heavy the schedule is, the boxes, and how many registers expressions need.
-- This project's own.
use Rattle.std.specs.Prelude.{◌≡◌, ◌⊎◌, ℕ, nat_lt, if◌then◌else◌, List, Option, Some, None, Result, Ok, Err}
use Rattle.std.specs.declared.alloc.Global.{Global}
use Rattle.halide_pipeline.specs.Pipelines.{Pipeline}
use Rattle.halide_pipeline.specs.WellFormed.{IsWellFormed}
use Rattle.halide_parser_syntax.specs.declared.faults.ParseFault.{ParseFault}
use Rattle.halide_parser.specs.Parsing.{parsed}
use Rattle.schedule_lines.specs.declared.faults.ScheduleFault.{ScheduleFault}
use Rattle.schedule.specs.declared.schedules.Schedule.{Schedule}
use Rattle.schedule.specs.Reading.{read}
use Rattle.schedule.specs.Accepted.{IsAccepted}
use Rattle.bounds_weights.specs.declared.faults.WeightError.TheVariants as weights
use Rattle.bounds_weights.specs.declared.stage_needs.StageNeeds.{StageNeeds}
use Rattle.bounds_weights.specs.Weight.{needs, is_too_deep, weight, most_weight}
use Rattle.bounds.specs.declared.faults.BoundsFault.{BoundsFault}
use Rattle.bounds.specs.declared.verdict.Boxes.{Boxes}
use Rattle.bounds.specs.Verdict.{inferred}
use Rattle.hrv_compiler.specs.declared.faults.CompileFault.{CompileFault}
use Rattle.hrv_compiler.specs.declared.faults.CompileFault.TheVariants as faults
use Rattle.hrv_compiler.specs.Compiled.{CompiledContents}

abbrev pub by_needs : StageNeeds → Option CompileFault
by_needs own_stage_needs = if is_too_deep own_stage_needs then Some faults.TooDeep else None

abbrev pub by_boxes : Pipeline → Schedule → Result Boxes BoundsFault → Option CompileFault
by_boxes pipeline schedule (Ok boxes) = by_needs (needs pipeline schedule)
by_boxes pipeline schedule (Err fault) = Some (faults.Bounds fault)

abbrev pub by_weight : Pipeline → Schedule → ℕ → Option CompileFault
by_weight pipeline schedule func_index = if nat_lt most_weight func_index then Some (faults.Lower weights.TooHeavy) else by_boxes pipeline schedule
    (inferred pipeline schedule)

abbrev pub by_schedule : Pipeline → Result Schedule (ℕ × ScheduleFault) → Option CompileFault
by_schedule pipeline (Ok schedule) = by_weight pipeline schedule (weight pipeline schedule)
by_schedule pipeline (Err fault) = Some (faults.Schedule fault.0 fault.1)

abbrev pub by_algorithm : List ℕ → Result Pipeline (ℕ × ParseFault) → Option CompileFault
by_algorithm schedule (Ok pipeline) = by_schedule pipeline (read pipeline schedule)
by_algorithm schedule (Err fault) = Some (faults.Parse fault.0 fault.1)

-- the first fault of two texts
unfoldable pub refusal_of : Global → List ℕ → List ℕ → Option CompileFault
refusal_of alloc algorithm schedule = by_algorithm schedule (parsed alloc algorithm)

-- The fault is first, or memory ran out.
abbrev pub IsFirst : Option CompileFault → CompileFault → Type 0
IsFirst wanted fault = (wanted ≡ Some fault) ⊎ (fault ≡ faults.Memory)

-- ---- What two texts mean: a pipeline, and a schedule that is accepted for it, for which boxes are inferred.

-- The schedule was accepted for the pipeline, and the boxes were inferred for both.
pub record IsCompiled (compiled_contents : CompiledContents) : Type 0 where
  pub well_formed : IsWellFormed compiled_contents.pipeline
  pub accepted : IsAccepted compiled_contents.pipeline compiled_contents.schedule
  pub inferred_is : inferred compiled_contents.pipeline compiled_contents.schedule ≡ Ok compiled_contents.boxes

-- It is what these texts mean.
pub record Means (alloc : Global) (algorithm schedule : List ℕ) (compiled_contents : CompiledContents) : Type 0 where
  pub algorithm_is : parsed alloc algorithm ≡ Ok compiled_contents.pipeline
  pub schedule_is : read compiled_contents.pipeline schedule ≡ Ok compiled_contents.schedule
