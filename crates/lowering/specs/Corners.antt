-- Where boxes begin, while loops of consumers are in given iterations.
--
-- The box of a Func at root begins at one point. That of a Func at a loop begins at another point in each iteration: the ends of its ranges
-- are counted from bases, multiples of the numbers of its consumer's iterations, from that loop outward.
-- This project's own.
use Rattle.std.specs.Prelude.{◌≡◌, ℕ, ◌%◌, ◌^◌, List, [], ◌∷◌, slice_get, Option, Some, None}
use Rattle.halide_pipeline.specs.Words as word
use Rattle.schedule.specs.declared.plans.FuncPlan.{FuncPlan}
use Rattle.schedule.specs.declared.placements.LoopPosition.{LoopPosition}
use Rattle.schedule.specs.declared.placements.ComputeLevel.{ComputeLevel}
use Rattle.schedule.specs.declared.placements.ComputeLevel.TheVariants as places
use Rattle.schedule.specs.declared.placements.FuncPlacement.{FuncPlacement}
use Rattle.bounds_ranges.specs.declared.ranges.Range.{Range}
use Rattle.bounds_ranges.specs.Ranges.{more_sum, less_sum}
use Rattle.bounds.specs.declared.boxes.SourceBox.{SourceBox}
use Rattle.bounds.specs.Boxes.{no_loops}
use Rattle.bounds_laws.specs.ConsumerLaws.{values_in}
use Rattle.loop_ir.specs.declared.expressions.Counter.{Counter}
use Rattle.loop_ir.specs.Counters.{Values}
use Rattle.loop_ir.specs.Expressions.{linear_value}
use Rattle.lowering_nests.specs.Nests.{loops_of}
use Rattle.lowering_expressions.specs.declared.calls.Corner.{Corner}
use Rattle.bounds.specs.Extents.{word_at}

-- ---- while loops have these values

-- the word at which a range begins
abbrev pub first_of : Range → List ℕ → ℕ
first_of range values = word.subtract (word.add (word_at range.low) (more_sum range.base values % 2 ^ 32)) (less_sum range.base values % 2 ^ 32)

-- what the bases of a Func at a loop count, while counters stand so
abbrev pub iterations_at : LoopPosition → Option FuncPlan → Values → List ℕ
iterations_at at None values = no_loops
iterations_at at (Some plan) values = values_in plan at.inside (loops_of at.func values)

abbrev pub iterations_for : List FuncPlan → ComputeLevel → Values → List ℕ
iterations_for plans (places.At at) values = iterations_at at (slice_get plans at.func) values
iterations_for plans places.Root values = no_loops
iterations_for plans places.Inlined values = no_loops
iterations_for plans places.Nowhere values = no_loops

-- ---- corners of boxes

-- It is the corner of the box of a Func that is computed there.
abbrev pub IsCorner : List FuncPlan → ComputeLevel → SourceBox → Corner → Type 0
IsCorner plans level source_box corner =
    (values : Values) → (linear_value values corner.x ≡ first_of source_box.x (iterations_for plans level values))
    × (linear_value values corner.y ≡ first_of source_box.y (iterations_for plans level values))

abbrev pub IsCornerOf : List FuncPlan → ComputeLevel → Option SourceBox → Corner → Type 0
IsCornerOf plans level None corner = Unit {0}
IsCornerOf plans level (Some own) corner = IsCorner plans level own corner

-- Each box has its corner.
abbrev pub AreCorners : List FuncPlan → List (Option SourceBox) → List FuncPlacement → List Corner → Type 0
AreCorners plans [] standings corners = Unit {0}
AreCorners plans (own ∷ boxes) [] corners = Unit {0}
AreCorners plans (own ∷ boxes) (standing ∷ standings) [] = ⊥
AreCorners plans (own ∷ boxes) (standing ∷ standings) (corner ∷ corners) = IsCornerOf plans standing.place own corner × AreCorners plans boxes standings corners

-- ---- counters

-- what is at a counter; 0 where there is none
abbrev pub counted_at : Values → Option Counter → ℕ
counted_at values None = 0
counted_at values (Some counter) = values counter

abbrev pub counted : Values → List (Option Counter) → List ℕ
counted values [] = []
counted values (first ∷ others) = counted_at values first ∷ counted values others
