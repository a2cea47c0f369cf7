-- Between which numbers the arguments of a Func lie where it reads a source.
--
-- For a source that is an input or computed at root these are the Func's own box. A source that is computed at a loop of the consumer is
-- asked while the loops from that one outward stay: they go into the base, and those inside take all their values. Loops stand innermost first.
-- This project's own.
use Rattle.std.specs.Prelude.{◌≡◌, ◌≤◌, ℕ, suc, ◌+◌, ◌-◌, nat_lt, Bool, false, not, if◌then◌else◌, List, [], ◌∷◌, take, drop, length, slice_get, Option, Some}
use Rattle.std.specs.Prelude.{None}
use Rattle.std.specs.List.{AllByRecursion}
use Rattle.halide_pipeline.specs.declared.expressions.Variable.{Variable}
use Rattle.halide_pipeline.specs.declared.expressions.Variable.TheVariants as variables
use Rattle.halide_pipeline.specs.Expressions.{same_variable}
use Rattle.schedule_lines.specs.declared.stages.Loop.{Loop}
use Rattle.schedule_lines.specs.declared.stages.LoopId.{LoopId}
use Rattle.schedule_lines.specs.declared.stages.Split.{Split}
use Rattle.schedule_lines.specs.declared.stages.Stage.{Stage}
use Rattle.schedule_lines.specs.Directives.{same_id}
use Rattle.schedule.specs.declared.plans.FuncPlan.{FuncPlan}
use Rattle.schedule.specs.declared.schedules.Schedule.{Schedule}
use Rattle.schedule.specs.declared.placements.FuncPlacement.{FuncPlacement}
use Rattle.schedule.specs.Legal.{is_root}
use Rattle.schedule_loops.specs.declared.extents.Extents.{Extents}
use Rattle.schedule_loops.specs.Visits.{counts, strides, AreSplits}
use Rattle.schedule_loops.specs.Reach.{reach, has_uneven}
use Rattle.bounds_ranges.specs.declared.bases.Multiple.{Multiple}
use Rattle.bounds_ranges.specs.declared.ranges.Range.{Range}
use Rattle.bounds_ranges.specs.Ranges.{no_base, zero_multiple, more_sum, less_sum, ends_of, fit}
use Rattle.bounds.specs.declared.boxes.ConsumerLoop.{ConsumerLoop}
use Rattle.bounds.specs.declared.boxes.SourceBox.{SourceBox}
use Rattle.bounds.specs.Extents.{extents_of}

-- ---- the loops of a consumer

-- how many loops stand inside this one
abbrev pub inner_count : LoopId → List Loop → ℕ
inner_count id [] = 0
inner_count id (first ∷ outside) = if same_id first.id id then 0 else suc (inner_count id outside)

-- the greatest value of a loop; 0 where none is there
abbrev pub last_of : Extents → List Split → Option Loop → ℕ
last_of extents splits None = 0
last_of extents splits (Some own) = counts extents splits own.id - 1

abbrev pub last_at : Extents → List Split → List Loop → ℕ → ℕ
last_at extents splits loops at = last_of extents splits (slice_get loops at)

-- of each loop of a stage
abbrev pub lasts_in : Extents → List Split → List Loop → List ℕ
lasts_in extents splits loops =
    last_at extents splits loops 0 ∷ last_at extents splits loops 1 ∷ last_at extents splits loops 2 ∷ last_at extents splits loops 3
    ∷ last_at extents splits loops 4 ∷ []

-- a loop of the pure definition of a Func
unfoldable pub consumer_loop_in : Extents → List Split → List Loop → LoopId → ConsumerLoop
consumer_loop_in extents splits loops id = record { inside = id; inner = inner_count id loops; lasts = lasts_in extents splits loops }

abbrev pub consumer_loop : FuncPlan → SourceBox → LoopId → ConsumerLoop
consumer_loop plan source_box id = consumer_loop_in (extents_of source_box) plan.pure.splits plan.pure.loops id

-- ---- arguments of the consumer

-- how far an iteration of a loop takes a variable; not at all, where none is there or it is over another one
abbrev pub multiple_of : List Split → Variable → Option Loop → Multiple
multiple_of splits variable None = zero_multiple
multiple_of splits variable (Some own) = if same_variable own.variable variable then record { more = strides splits own.id; less = 0 } else zero_multiple

-- the loops from the one with this many inside it outward
abbrev pub multiple_at : List Split → List Loop → Variable → ℕ → ℕ → Multiple
multiple_at splits loops variable inner at = if nat_lt at inner then zero_multiple else multiple_of splits variable (slice_get loops at)

abbrev pub base_in : List Split → List Loop → Variable → ℕ → List Multiple
base_in splits loops variable inner =
    multiple_at splits loops variable inner 0 ∷ multiple_at splits loops variable inner 1 ∷ multiple_at splits loops variable inner 2
    ∷ multiple_at splits loops variable inner 3 ∷ multiple_at splits loops variable inner 4 ∷ []

-- An argument with this range is its least value, and what each of its loops adds: those outside into the base, those inside up to
-- the most that they can add. Where an uneven loop is outside, it counts with its whole range.
abbrev pub argument : List ℕ → Extents → List Split → List Loop → ℕ → Variable → Range → Range
argument lasts extents splits loops inner variable range =
    if has_uneven splits variable (drop inner loops) then fit lasts no_base (ends_of range)
    else fit lasts (base_in splits loops variable inner) (record { low = range.low; high = range.low + reach extents splits variable (take inner loops) })

unfoldable pub consumer_view_in : Extents → List Split → List Loop → ℕ → SourceBox → ConsumerLoop → SourceBox
consumer_view_in extents splits loops inner source_box consumer = record {
  x = argument consumer.lasts extents splits loops inner variables.FirstArgument source_box.x;
  y = argument consumer.lasts extents splits loops inner variables.SecondArgument source_box.y;
  lasts = consumer.lasts;
}

abbrev pub consumer_view : Stage → SourceBox → ConsumerLoop → SourceBox
consumer_view stage source_box consumer = consumer_view_in (extents_of source_box) stage.splits stage.loops (inner_count consumer.inside stage.loops) source_box consumer

-- ---- arguments of a Func that is computed at a loop itself: the loops inside take all their values

-- the multiples at places that pass a test, the first of which has this one
abbrev pub chosen : (ℕ → Bool) → ℕ → List Multiple → List Multiple
chosen test at [] = []
chosen test at (own ∷ others) = (if test at then own else zero_multiple) ∷ chosen test (at + 1) others

abbrev pub inner_part : ℕ → List Multiple → List Multiple
inner_part inner base = chosen (λ at. nat_lt at inner) 0 base

abbrev pub outer_part : ℕ → List Multiple → List Multiple
outer_part inner base = chosen (λ at. not (nat_lt at inner)) 0 base

abbrev pub settled : ℕ → List ℕ → Range → Range
settled inner lasts range = record {
  base = outer_part inner range.base;
  low = range.low - less_sum (inner_part inner range.base) lasts;
  high = range.high + more_sum (inner_part inner range.base) lasts;
}

abbrev pub settled_box : ℕ → SourceBox → SourceBox
settled_box inner source_box = record { x = settled inner source_box.lasts source_box.x; y = settled inner source_box.lasts source_box.y; lasts = source_box.lasts }

-- ---- whichever it is

abbrev pub is_root_at : Option FuncPlacement → Bool
is_root_at None = false
is_root_at (Some own) = is_root own.place

abbrev pub view_at_root : Option FuncPlan → SourceBox → ConsumerLoop → SourceBox
view_at_root None source_box consumer = source_box
view_at_root (Some plan) source_box consumer = consumer_view plan.pure source_box consumer

abbrev pub view_of : Option FuncPlan → Option FuncPlacement → SourceBox → Option ConsumerLoop → SourceBox
view_of plan placement source_box None = source_box
view_of plan placement source_box (Some consumer) = if is_root_at placement then view_at_root plan source_box consumer else settled_box consumer.inner source_box

-- ---- what stages of a schedule keep: few loops, and few splits by small factors

pub record IsSmall (stage : Stage) : Type 0 where
  pub splits : AreSplits stage.splits
  pub loops : length stage.loops ≤ 5

abbrev pub IsSmallPlan : FuncPlan → Type 0
IsSmallPlan plan = IsSmall plan.pure

pub record AreSmall (schedule : Schedule) : Type 0 where
  pub stages : (at : ℕ) (plan : FuncPlan) → slice_get schedule.funcs at ≡ Some plan → IsSmall plan.pure
  pub each : AllByRecursion IsSmallPlan schedule.funcs
