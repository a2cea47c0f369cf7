-- Worked rows: what the loops of small stages visit.
-- This project's own.
use Rattle.std.specs.Prelude.{ℕ, Bool, false, List, [], ◌∷◌, None}
use Rattle.halide_pipeline.specs.declared.expressions.Variable.{Variable}
use Rattle.halide_pipeline.specs.declared.expressions.Variable.TheVariants as variables
use Rattle.schedule_lines.specs.declared.stages.Loop.{Loop}
use Rattle.schedule_lines.specs.declared.stages.LoopId.{LoopId}
use Rattle.schedule_lines.specs.declared.stages.LoopId.TheVariants as ids
use Rattle.schedule_lines.specs.declared.stages.Stage.{Stage}
use Rattle.schedule_lines.specs.declared.stages.Tail.{Tail}
use Rattle.schedule_lines.specs.declared.stages.Tail.TheVariants as tails
use Rattle.schedule_loops.specs.declared.extents.Extents.{Extents}
use Rattle.schedule_loops.specs.declared.sizes.LoopSize.{LoopSize}
use Rattle.schedule_loops.specs.Sizes.{SizedLoops}
use Rattle.schedule_loops.specs.Visits.{Visit, listed_by}

abbrev pub loop : LoopId → Variable → Loop
loop id variable = record { id = id; name = []; variable = variable; inner_of = None; is_from_shift = false; marked = None }

-- a definition of one argument with this many values, whose loop is split so
abbrev pub width : ℕ → Extents
width n = record { first_argument = n; second_argument = 0; first_reduction = 0; second_reduction = 0 }

abbrev pub split_by : ℕ → Tail → Stage
split_by factor tail = record {
  loops = loop (ids.Inner 0) variables.FirstArgument ∷ loop (ids.Outer 0) variables.FirstArgument ∷ [];
  splits = record { of = ids.Whole variables.FirstArgument; factor = factor; tail = tail } ∷ [];
}

-- the values of that argument, in the order of the visits
abbrev pub first_values : ℕ → ℕ → Tail → List ℕ
first_values n factor tail = listed_by (width n) (split_by factor tail) (λ values. values (ids.Whole variables.FirstArgument) ∷ [])

-- an update over 2 values of its argument and 3 of its reduction variable, whose argument has the inner loop
abbrev pub reordered_extents : Extents
reordered_extents = record { first_argument = 2; second_argument = 0; first_reduction = 3; second_reduction = 0 }

abbrev pub reordered : Stage
reordered = record {
  loops = loop (ids.Whole variables.FirstArgument) variables.FirstArgument ∷ loop (ids.Whole variables.FirstReduction) variables.FirstReduction ∷ [];
  splits = [];
}

abbrev pub visit : ℕ → ℕ → Visit
visit x number = record { x = x; y = 0; number = number }

-- 10 values of the first argument split by 4 under guard, and the outer loop of that by 2 under shift
abbrev pub split_twice : SizedLoops
split_twice = record {
  extents = record { first_argument = 10; second_argument = 3; first_reduction = 0; second_reduction = 0 };
  splits = record { of = ids.Whole variables.FirstArgument; factor = 4; tail = tails.Guard }
      ∷ record { of = ids.Outer 0; factor = 2; tail = tails.Shift } ∷ [];
}

abbrev pub sized : ℕ → ℕ → Bool → LoopSize
sized count stride is_uneven = record { count = count; stride = stride; is_uneven = is_uneven }

-- its inner loops, and all three
abbrev pub inner_loops : List Loop
inner_loops = loop (ids.Inner 0) variables.FirstArgument ∷ loop (ids.Inner 1) variables.FirstArgument ∷ []

abbrev pub all_loops : List Loop
all_loops =
    loop (ids.Inner 0) variables.FirstArgument ∷ loop (ids.Inner 1) variables.FirstArgument ∷ loop (ids.Outer 1) variables.FirstArgument ∷ []
