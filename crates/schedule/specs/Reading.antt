-- A schedule's text, one line after the other: what each says of the Funcs, or its least fault; and the text as a whole.
-- This project's own.
use Rattle.std.specs.Prelude.{ℕ, ◌+◌, ◌-◌, ◌==◌, nat_le, nat_lt, if◌then◌else◌, List, [], ◌∷◌, length, map, slice_get, slice_set, Option, Some, None, is_some}
use Rattle.std.specs.Prelude.{Result, Ok, Err, Bool, false}
use Rattle.line_text.specs.Lines.{is_digit, ◌>>=◌, taken_from, lines_of}
use Rattle.halide_pipeline.specs.declared.expressions.Source.{Source}
use Rattle.halide_pipeline.specs.declared.expressions.Source.TheVariants as sources
use Rattle.halide_pipeline.specs.Pipelines.{Pipeline, lookup}
use Rattle.schedule_lines.specs.declared.faults.ScheduleFault.{ScheduleFault}
use Rattle.schedule_lines.specs.declared.faults.ScheduleFault.TheVariants as fault
use Rattle.schedule_lines.specs.declared.lines.Computed.{Computed}
use Rattle.schedule_lines.specs.declared.lines.Directive.{Directive}
use Rattle.schedule_lines.specs.declared.lines.Directive.TheVariants as directives
use Rattle.schedule_lines.specs.declared.lines.ScheduleLine.{ScheduleLine}
use Rattle.schedule_lines.specs.declared.lines.ScheduleLine.TheVariants as lines
use Rattle.schedule_lines.specs.declared.lines.LoopDirective.{LoopDirective}
use Rattle.schedule_lines.specs.declared.lines.Subject.{Subject}
use Rattle.schedule_lines.specs.declared.stages.Stage.{Stage}
use Rattle.schedule_lines.specs.declared.stages.StageName.{StageName}
use Rattle.schedule_lines.specs.Directives.{directed}
use Rattle.schedule_lines.specs.Lines.{line_of, text_of, words_of}
use Rattle.schedule.specs.declared.plans.FuncPlan.{FuncPlan}
use Rattle.schedule.specs.declared.readers.ScheduleReader.{ScheduleReader}
use Rattle.schedule.specs.declared.readers.LineSubject.{LineSubject}
use Rattle.schedule.specs.declared.readers.LineSubject.TheVariants as targets
use Rattle.schedule.specs.Plans.{plan_of, stage as plan_stage, with_stage, with_compute}
use Rattle.schedule.specs.declared.schedules.Schedule.{Schedule}
use Rattle.schedule.specs.declared.placements.FuncPlacement.{FuncPlacement}
use Rattle.schedule.specs.Legal.{verdict}
use Rattle.schedule.specs.Plans as plans
use Rattle.schedule.specs.Placements.{standings}

-- ---- what the first word names: an input, or `f` or `f.0` to `f.3` of a Func f

-- An update is named by one digit.
abbrev pub digit : List ℕ → Option ℕ
digit (first ∷ []) = if is_digit first then Some (first - 48) else None
digit _ = None

abbrev pub numbered : ℕ → FuncPlan → Option ℕ → Option LineSubject
numbered func plan None = None
numbered func plan (Some at) = if nat_lt at (length plan.updates) then Some (targets.Stage (record { func = func; update = Some at })) else None

abbrev pub numbered_of : ℕ → Option FuncPlan → Option ℕ → Option LineSubject
numbered_of func None at = None
numbered_of func (Some plan) at = numbered func plan at

abbrev pub stage_target : List FuncPlan → ℕ → Option (List ℕ) → Option LineSubject
stage_target plans func None = Some (targets.Stage (record { func = func; update = None }))
stage_target plans func (Some suffix) = numbered_of func (slice_get plans func) (digit suffix)

abbrev pub target_of : List FuncPlan → Option Source → Option (List ℕ) → Option LineSubject
target_of plans None update = None
target_of plans (Some (sources.Input place)) update = if is_some update then None else Some targets.Input
target_of plans (Some (sources.Func func)) update = stage_target plans func update

abbrev pub target : Pipeline → List FuncPlan → Subject → Option LineSubject
target pipeline plans subject = target_of plans (lookup subject.name pipeline.names) subject.update

-- ---- a compute line

-- A Func has one compute line, and the output has none.
abbrev pub compute_fault : Pipeline → ℕ → FuncPlan → Option ScheduleFault
compute_fault pipeline func plan =
    if is_some plan.compute then Some fault.NameInUse
    else if func == pipeline.output.func then Some fault.InputOrOutput
    else None

abbrev pub computed_as : ScheduleReader → ℕ → Computed → FuncPlan → Option ScheduleFault → Result ScheduleReader ScheduleFault
computed_as reader func computed plan (Some wrong) = Err wrong
computed_as reader func computed plan None =
    Ok (record { lines = reader.lines; plans = slice_set reader.plans func (with_compute plan (record { line = reader.lines; computed = computed })) })

abbrev pub computed_of : Pipeline → ScheduleReader → ℕ → Computed → Option FuncPlan → Result ScheduleReader ScheduleFault
computed_of pipeline reader func computed None = Err fault.UnknownStage
computed_of pipeline reader func computed (Some plan) = computed_as reader func computed plan (compute_fault pipeline func plan)

abbrev pub taken_computed : Pipeline → ScheduleReader → ℕ → Computed → Result ScheduleReader ScheduleFault
taken_computed pipeline reader func computed = computed_of pipeline reader func computed (slice_get reader.plans func)

-- ---- a line about the loops of a stage

abbrev pub new_stage_of : Option ℕ → ℕ → LoopDirective → Option Stage → Result Stage ScheduleFault
new_stage_of update line directive None = Err fault.UnknownStage
new_stage_of update line directive (Some own) = directed (is_some update) own line directive

abbrev pub new_stage : FuncPlan → Option ℕ → ℕ → LoopDirective → Result Stage ScheduleFault
new_stage plan update line directive = new_stage_of update line directive (plan_stage plan update)

abbrev pub directed_of : ScheduleReader → StageName → LoopDirective → Option FuncPlan → Result ScheduleReader ScheduleFault
directed_of reader name directive None = Err fault.UnknownStage
directed_of reader name directive (Some plan) =
    new_stage plan name.update reader.lines directive >>= λ new.
    Ok (record { lines = reader.lines; plans = slice_set reader.plans name.func (with_stage plan name.update new) })

abbrev pub taken_directed : ScheduleReader → StageName → LoopDirective → Result ScheduleReader ScheduleFault
taken_directed reader name directive = directed_of reader name directive (slice_get reader.plans name.func)

-- ---- a line. A directive for an input is a fault of its own.

abbrev pub taken_directive : Pipeline → ScheduleReader → Option LineSubject → Directive → Result ScheduleReader ScheduleFault
taken_directive pipeline reader None directive = Err fault.UnknownStage
taken_directive pipeline reader (Some targets.Input) directive = Err fault.InputOrOutput
taken_directive pipeline reader (Some (targets.Stage name)) (directives.OfPlace computed) = taken_computed pipeline reader name.func computed
taken_directive pipeline reader (Some (targets.Stage name)) (directives.OfLoops directive) = taken_directed reader name directive

abbrev pub settled : Pipeline → ScheduleReader → ScheduleLine → Result ScheduleReader ScheduleFault
settled pipeline reader lines.Blank = Ok reader
settled pipeline reader (lines.Directive subject directive) = taken_directive pipeline reader (target pipeline reader.plans subject) directive

abbrev pub line_of_bytes : List ℕ → Result ScheduleLine ScheduleFault
line_of_bytes line = line_of (words_of (text_of line))

-- There are at most 256 lines, blank ones among them.
unfoldable pub taken : Pipeline → ScheduleReader → List ℕ → Result ScheduleReader ScheduleFault
taken pipeline reader line =
    if nat_le 256 reader.lines then Err fault.Syntax
    else (line_of_bytes line >>= λ said. settled pipeline (record { lines = reader.lines + 1; plans = reader.plans }) said)

-- before the first line
abbrev pub start : Pipeline → ScheduleReader
start pipeline = record { lines = 0; plans = map plan_of pipeline.funcs }

-- ---- The schedule that a text means for a pipeline, or its fault and that fault's line.

abbrev pub finished_as : ScheduleReader → List FuncPlacement → Option (ℕ × ScheduleFault) → Result Schedule (ℕ × ScheduleFault)
finished_as reader found None = Ok (record { funcs = reader.plans; standings = found })
finished_as reader found (Some wrong) = Err wrong

abbrev pub judged : ScheduleReader → List FuncPlacement → Result Schedule (ℕ × ScheduleFault)
judged reader found = finished_as reader found (verdict found reader.plans)

-- after the last line
abbrev pub finished : Pipeline → ScheduleReader → Result Schedule (ℕ × ScheduleFault)
finished pipeline reader = judged reader (standings pipeline reader.plans)

-- The first faulty line decides, and in it the least fault. Where no line is faulty, what its lines make of the
-- loops is judged.
unfoldable pub read : Pipeline → List ℕ → Result Schedule (ℕ × ScheduleFault)
read pipeline text = taken_from (taken pipeline) 1 (start pipeline) (lines_of text) >>= λ reader. finished pipeline reader

-- ---- what contracts of readers say

abbrev pub stage_of : Option ℕ → Option FuncPlan → Option Stage
stage_of update None = None
stage_of update (Some plan) = plans.stage plan update

abbrev pub stage : Schedule → StageName → Option Stage
stage schedule name = stage_of name.update (slice_get schedule.funcs name.func)

abbrev pub reached_of : Option FuncPlacement → Bool
reached_of None = false
reached_of (Some own) = own.is_reached

abbrev pub is_reached : Schedule → ℕ → Bool
is_reached schedule func = reached_of (slice_get schedule.standings func)
