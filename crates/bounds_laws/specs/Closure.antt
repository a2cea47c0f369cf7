-- Boxes hold all that the pixels of the output's picture read, all that those read, and so on.
-- This project's own.
use Rattle.std.specs.Prelude.{◌≡◌, ℕ, zero, suc, ◌+◌, ◌^◌, ◌<◌, ◌&&◌, ◌||◌, Bool, false, nat_lt, nat_le, List, [], ◌∷◌, length, slice_get, Option, Some, None}
use Rattle.std.specs.Prelude.{Ok}
use Rattle.halide_pipeline.specs.declared.definitions.Func.{Func}
use Rattle.halide_pipeline.specs.declared.definitions.Input.{Input}
use Rattle.halide_pipeline.specs.declared.expressions.Source.{Source}
use Rattle.halide_pipeline.specs.declared.expressions.Source.TheVariants as sources
use Rattle.halide_pipeline.specs.WellFormed.{dimensions, IsWellFormed}
use Rattle.halide_pipeline.specs.Pipelines.{Pipeline}
use Rattle.halide_pipeline.specs.Pixel.{Planes, reads_of, pixels}
use Rattle.halide_pipeline.specs.Points.{Point, Hold, pixel_trace}
use Rattle.schedule.specs.declared.schedules.Schedule.{Schedule}
use Rattle.schedule.specs.declared.placements.FuncPlacement.{FuncPlacement}
use Rattle.schedule.specs.Accepted.{IsAccepted}
use Rattle.schedule.specs.Legal.{is_inlined}
use Rattle.bounds_ranges.specs.declared.ranges.Range.{Range}
use Rattle.bounds_ranges.specs.Ranges.{no_base, more_sum, less_sum}
use Rattle.bounds_ranges.specs.Laws.{AnswerWords}
use Rattle.bounds_ranges.specs.Numbers.{origin, least, greatest, spot}
use Rattle.bounds.specs.declared.boxes.SourceBox.{SourceBox}
use Rattle.bounds.specs.declared.verdict.Boxes.{Boxes}
use Rattle.bounds.specs.Verdict.{inferred}

-- ---- some values of loops, each up to its last

abbrev pub some_upto : ℕ → (ℕ → Bool) → Bool
some_upto zero test = test 0
some_upto (suc n) test = test (suc n) || some_upto n test

unfoldable pub some_values : List ℕ → (List ℕ → Bool) → Bool
some_values [] test = test []
some_values (last ∷ lasts) test = some_upto last (λ value. some_values lasts (λ values. test (value ∷ values)))

-- ---- whether a point lies in a box

-- under these values of the loops
abbrev pub lies : List ℕ → List ℕ → Range → ℕ → Bool
lies lasts values range x =
    nat_lt x (2 ^ 32)
    && (nat_le (range.low + more_sum range.base values) (spot x + less_sum range.base values)
    && (nat_le (spot x + less_sum range.base values) (range.high + more_sum range.base values)
    && (nat_le (least + less_sum range.base lasts) range.low && nat_le (range.high + more_sum range.base lasts) greatest)))

abbrev pub lies_in : SourceBox → ℕ → ℕ → List ℕ → Bool
lies_in source_box x y values = lies source_box.lasts values source_box.x x && lies source_box.lasts values source_box.y
    y

-- under some values of the loops of the consumer, if there is a consumer
abbrev pub is_boxed : Option (Option SourceBox) → ℕ → ℕ → Bool
is_boxed None x y = false
is_boxed (Some None) x y = false
is_boxed (Some (Some own)) x y = some_values own.lasts (lies_in own x y)

-- ---- whether a point is held

abbrev pub is_within : Option Input → ℕ → ℕ → Bool
is_within None x y = false
is_within (Some input) x y = nat_lt x input.width && nat_lt y input.height

-- The output reaches a Func that is inlined.
abbrev pub is_put_in : Option FuncPlacement → Bool
is_put_in None = false
is_put_in (Some own) = own.is_reached && is_inlined own.place

abbrev pub held_at : Pipeline → Schedule → Boxes → Source → ℕ → ℕ → Bool
held_at pipeline schedule boxes (sources.Input place) x y = is_within (slice_get pipeline.inputs place) x y
held_at pipeline schedule boxes (sources.Func place) x y = is_put_in (slice_get schedule.standings place) || is_boxed (slice_get boxes.funcs place) x y

-- A point of an input lies within its extents. One of a Func that is computed lies in its box; inlined ones have none.
abbrev pub is_held : Pipeline → Schedule → Boxes → Point → Bool
is_held pipeline schedule boxes point = held_at pipeline schedule boxes point.source point.x point.y

-- ---- sources of one dimension

abbrev pub flat : Range
flat = record { base = no_base; low = origin; high = origin }

-- The box of a Func of one dimension has one row, the one whose number is 0.
abbrev pub OneRowBoxes : Type 0
OneRowBoxes = (pipeline : Pipeline) (schedule : Schedule) (boxes : Boxes) → IsWellFormed pipeline → IsAccepted pipeline schedule
    → inferred pipeline schedule ≡ Ok boxes
    → (func_index : ℕ) (func : Func) (source_box : SourceBox) → slice_get pipeline.funcs func_index ≡ Some func → dimensions func ≡ 1 → slice_get boxes.funcs func_index
    ≡ Some (Some source_box)
    → source_box.y ≡ flat

-- ---- the whole

-- What the pixels of the output's picture read, what those read, and so on, is held.
abbrev pub AllReadsAreHeld : Type 0
AllReadsAreHeld = (pipeline : Pipeline) (schedule : Schedule) (boxes : Boxes) → IsWellFormed pipeline → IsAccepted pipeline schedule
    → inferred pipeline schedule ≡ Ok boxes
    → (inputs : Planes) → AnswerWords pipeline.inputs (reads_of inputs (pixels pipeline.funcs inputs 0))
    → (x y : ℕ) → x < pipeline.output.width → y < pipeline.output.height
    → Hold (is_held pipeline schedule boxes)
    (record { source = sources.Func pipeline.output.func; x = x; y = y } ∷ pixel_trace pipeline.funcs inputs (length pipeline.funcs) pipeline.output.func x y)
