-- Runs of a stage: what it visits while its innermost loop takes all its values, guards obeyed, and its other loops stay. The innermost loop
-- alone of an accepted stage may be vectorized.
-- This project's own.
use Rattle.std.specs.Prelude.{◌<◌, List, [], ◌∷◌, Bool, ◌&&◌, ◌||◌, nat_lt, if◌then◌else◌, true, false}
use Rattle.schedule_lines.specs.declared.stages.Loop.{Loop}
use Rattle.schedule_loops.specs.Visits.{Values, counts, Visit, nest, over_loops, visit_of, zeros}
use Rattle.schedule_loops.specs.declared.extents.Extents.{Extents}
use Rattle.schedule_lines.specs.declared.stages.Mark.TheVariants as marks
use Rattle.schedule_lines.specs.Directives.{is_marked, same_id}
use Rattle.schedule_lines.specs.declared.stages.LoopId.{LoopId}
use Rattle.schedule_lines.specs.declared.stages.Stage.{Stage}
use Rattle.schedule_loops.specs.Visits as loops

-- Each of the loops is in one of its iterations.
abbrev pub AreIterations : Values → List Loop → Values → Type 0
AreIterations counts [] iterations = Unit {0}
AreIterations counts (own ∷ others) iterations = (iterations own.id < counts own.id) × AreIterations counts others iterations

abbrev pub is_vectorized_loop : Loop → Bool
is_vectorized_loop stage_loop = is_marked marks.Vectorized stage_loop

-- The innermost of these loops is vectorized.
abbrev pub is_vectorized_first : List Loop → Bool
is_vectorized_first [] = false
is_vectorized_first (own ∷ outside) = is_vectorized_loop own

abbrev pub innermost : List Loop → List Loop
innermost [] = []
innermost (own ∷ outside) = own ∷ []

abbrev pub outside_innermost : List Loop → List Loop
outside_innermost [] = []
outside_innermost (own ∷ outside) = outside

abbrev pub is_among : List Loop → LoopId → Bool
is_among [] id = false
is_among (own ∷ others) id = same_id id own.id || is_among others id

-- These loops are in their iterations, and no other has begun.
abbrev pub iterations_of : List Loop → loops.Values → loops.Values
iterations_of stage_loops iterations id = if is_among stage_loops id then iterations id else 0

-- what the stage visits in all iterations of its innermost loop, while its other loops are in these iterations
abbrev pub run_of : Extents → Stage → loops.Values → List Visit
run_of extents stage iterations =
    nest (counts extents stage.splits) (innermost stage.loops) (over_loops extents stage.splits (λ whole. visit_of extents whole ∷ []))
    (iterations_of (outside_innermost stage.loops) iterations)

-- all runs of the stage, one for each of the iterations of its other loops
abbrev pub runs : Extents → Stage → List (List Visit)
runs extents stage = nest (counts extents stage.splits) (outside_innermost stage.loops) (λ iterations. run_of extents stage iterations ∷ []) zeros

-- Each of these loops is in one of its iterations.
abbrev pub are_iterations : loops.Values → List Loop → loops.Values → Bool
are_iterations counts [] iterations = true
are_iterations counts (own ∷ outside) iterations = nat_lt (iterations own.id) (counts own.id) && are_iterations counts outside iterations
