-- The boxes of an algorithm under a schedule, or the first fault that there is.
--
-- The faults are judged in order: a box leaves -2^24 to 2^24; an input is read outside its extents; a shifted split is of a loop below
-- its factor; a box or the data are too large.
-- This project's own.
use Rattle.std.specs.Prelude.{◌≡◌, ℕ, ◌&&◌, nat_le, not, if◌then◌else◌, List, Option, Some, None, Result, Ok, Err, ◌+◌, nat_lt, Bool, true, [], ◌∷◌}
use Rattle.halide_pipeline.specs.Pipelines.{Pipeline}
use Rattle.halide_pipeline.specs.declared.definitions.Input.{Input}
use Rattle.halide_pipeline.specs.WellFormed.{most_points}
use Rattle.schedule.specs.declared.schedules.Schedule.{Schedule}
use Rattle.schedule.specs.declared.plans.FuncPlan.{FuncPlan}
use Rattle.bounds_weights.specs.Weight.{flags_of}
use Rattle.bounds.specs.declared.boxes.SourceBox.{SourceBox}
use Rattle.bounds.specs.declared.faults.BoundsFault.{BoundsFault}
use Rattle.bounds.specs.declared.faults.BoundsFault.TheVariants as faults
use Rattle.bounds.specs.declared.verdict.Boxes.{Boxes}
use Rattle.bounds.specs.Inference.{boxes_from, inputs_from}
use Rattle.bounds.specs.Layout.{laid_out}
use Rattle.bounds.specs.Extents.{points, extents_of}
use Rattle.schedule_loops.specs.Visits.{shifts_fit}
use Rattle.bounds_ranges.specs.declared.ranges.Range.{Range}
use Rattle.bounds_ranges.specs.Ranges.{widened}
use Rattle.bounds_ranges.specs.Numbers.{origin}

-- ---- Inputs are read within their extents alone.

-- from 0 to an extent less 1
abbrev pub is_within : List ℕ → Range → ℕ → Bool
is_within lasts range extent = nat_le origin (widened lasts range).low && nat_lt (widened lasts range).high (origin + extent)

abbrev pub input_holds : Input → SourceBox → Bool
input_holds input source_box = is_within source_box.lasts source_box.x input.width && is_within source_box.lasts
    source_box.y input.height

abbrev pub inputs_hold : List Input → List (Option SourceBox) → Bool
inputs_hold [] boxes = true
inputs_hold (input ∷ inputs) [] = true
inputs_hold (input ∷ inputs) (None ∷ boxes) = inputs_hold inputs boxes
inputs_hold (input ∷ inputs) (Some own ∷ boxes) = input_holds input own && inputs_hold inputs boxes

-- ---- Each shifted split of a stage that is computed is of a loop whose extent, in one iteration, is not below the factor. Loops of
-- updates aren't shifted, so pure definitions alone are judged.

abbrev pub shifts_hold : List FuncPlan → List (Option SourceBox) → Bool
shifts_hold [] boxes = true
shifts_hold (plan ∷ plans) [] = true
shifts_hold (plan ∷ plans) (None ∷ boxes) = shifts_hold plans boxes
shifts_hold (plan ∷ plans) (Some own ∷ boxes) = shifts_fit (extents_of own) plan.pure.splits && shifts_hold plans boxes

-- ---- No box has more than 1,048,576 points in one iteration.

abbrev pub have_few_points : List (Option SourceBox) → Bool
have_few_points [] = true
have_few_points (None ∷ boxes) = have_few_points boxes
have_few_points (Some own ∷ boxes) = nat_le (points own) most_points && have_few_points boxes

-- ---- verdict

-- the most bytes that the data may have
abbrev pub most_data : ℕ
most_data = 33554432

abbrev pub sized : Boxes → Result Boxes BoundsFault
sized boxes =
    if have_few_points boxes.inputs && (have_few_points boxes.funcs && nat_le boxes.layout.size most_data) then Ok boxes else Err faults.TooLarge

module _ (pipeline : Pipeline) (schedule : Schedule) where
  abbrev pub boxes_of : List (Option SourceBox) → List (Option SourceBox) → Boxes
  boxes_of funcs inputs = record { inputs = inputs; funcs = funcs; layout = laid_out pipeline schedule funcs }

  abbrev pub judged : List (Option SourceBox) → List (Option SourceBox) → Result Boxes BoundsFault
  judged funcs inputs =
      if not (inputs_hold pipeline.inputs inputs) then Err faults.InputExtents
      else if not (shifts_hold schedule.funcs funcs) then Err faults.ShortShift
      else sized (boxes_of funcs inputs)

  abbrev pub with_inputs : List (Option SourceBox) → Option (List (Option SourceBox)) → Result Boxes BoundsFault
  with_inputs funcs None = Err faults.FarBox
  with_inputs funcs (Some inputs) = judged funcs inputs

  abbrev pub with_funcs : Option (List (Option SourceBox)) → Result Boxes BoundsFault
  with_funcs None = Err faults.FarBox
  with_funcs (Some funcs) = with_inputs funcs (inputs_from pipeline schedule (flags_of schedule.standings) funcs 0 pipeline.inputs)

  unfoldable pub inferred : Result Boxes BoundsFault
  inferred = with_funcs (boxes_from pipeline schedule (flags_of schedule.standings) 0 pipeline.funcs)

-- The error is what was wanted, unless memory ran out.
abbrev pub Fails : BoundsFault → Result Boxes BoundsFault → Type 0
Fails faults.InputExtents wanted = wanted ≡ Err faults.InputExtents
Fails faults.FarBox wanted = wanted ≡ Err faults.FarBox
Fails faults.ShortShift wanted = wanted ≡ Err faults.ShortShift
Fails faults.TooLarge wanted = wanted ≡ Err faults.TooLarge
Fails faults.OutOfMemory wanted = Unit {0}

-- So is what was returned.
abbrev pub Infers : Result Boxes BoundsFault → Result Boxes BoundsFault → Type 0
Infers (Ok boxes) wanted = wanted ≡ Ok boxes
Infers (Err fault) wanted = Fails fault wanted
