-- What a line does to the loops of its stage, and which faults it has. Loops stand innermost first.
-- This project's own.
use Rattle.std.specs.Prelude.{ℕ, Bool, true, false, not, ◌&&◌, ◌||◌, nat_le, nat_lt, if◌then◌else◌, List, [], ◌∷◌, ◌++◌, length, Option, Some, None, is_some}
use Rattle.std.specs.Prelude.{Result, Ok, Err, ◌==◌}
use Rattle.std.specs.Str.{bytes_eq}
use Rattle.schedule_lines.specs.declared.faults.ScheduleFault.{ScheduleFault}
use Rattle.schedule_lines.specs.declared.faults.ScheduleFault.TheVariants as fault
use Rattle.schedule_lines.specs.declared.lines.LoopDirective.{LoopDirective}
use Rattle.schedule_lines.specs.declared.lines.LoopDirective.TheVariants as on_loops
use Rattle.schedule_lines.specs.declared.lines.SplitLine.{SplitLine}
use Rattle.schedule_lines.specs.declared.stages.Loop.{Loop}
use Rattle.schedule_lines.specs.declared.stages.LoopId.{LoopId}
use Rattle.schedule_lines.specs.declared.stages.LoopId.TheVariants as ids
use Rattle.schedule_lines.specs.declared.stages.Mark.{Mark}
use Rattle.schedule_lines.specs.declared.stages.Mark.TheVariants as marks
use Rattle.schedule_lines.specs.declared.stages.Marked.{Marked}
use Rattle.schedule_lines.specs.declared.stages.Stage.{Stage}
use Rattle.schedule_lines.specs.declared.stages.Tail.{Tail}
use Rattle.schedule_lines.specs.declared.stages.Tail.TheVariants as tails
use Rattle.halide_pipeline.specs.declared.expressions.Variable.{Variable}
use Rattle.halide_pipeline.specs.declared.expressions.Variable.TheVariants as variables
use Rattle.halide_pipeline.specs.Expressions.{same_variable}

-- ---- Loops of a stage: how they are told apart and found.

abbrev pub same_mark : Mark → Mark → Bool
same_mark marks.Unrolled marks.Unrolled = true
same_mark marks.Vectorized marks.Vectorized = true
same_mark marks.Parallel marks.Parallel = true
same_mark _ _ = false

abbrev pub has_mark : Mark → Option Marked → Bool
has_mark mark None = false
has_mark mark (Some own) = same_mark own.mark mark

abbrev pub is_marked : Mark → Loop → Bool
is_marked mark stage_loop = has_mark mark stage_loop.marked

abbrev pub same_id : LoopId → LoopId → Bool
same_id (ids.Whole a) (ids.Whole b) = same_variable a b
same_id (ids.Outer a) (ids.Outer b) = a == b
same_id (ids.Inner a) (ids.Inner b) = a == b
same_id _ _ = false

abbrev pub is_reduction : Variable → Bool
is_reduction variables.FirstReduction = true
is_reduction variables.SecondReduction = true
is_reduction _ = false

-- the loop with a name
abbrev pub find : List ℕ → List Loop → Option Loop
find name [] = None
find name (first ∷ others) = if bytes_eq first.name name then Some first else find name others

-- There is a loop with the name.
abbrev pub is_known : List ℕ → List Loop → Bool
is_known name loops = is_some (find name loops)

-- the innermost loop with a mark
abbrev pub find_marked : Mark → List Loop → Option Loop
find_marked mark [] = None
find_marked mark (first ∷ others) = if is_marked mark first then Some first else find_marked mark others

-- ---- directives

-- the loops, with others in the place of the one with a name
abbrev pub replaced : List ℕ → List Loop → List Loop → List Loop
replaced name new [] = []
replaced name new (first ∷ others) = if bytes_eq first.name name then new ++ others else first ∷ replaced name new others

abbrev pub open_of : Option Loop → Option Loop
open_of None = None
open_of (Some own) = if is_some own.marked then None else Some own

-- A marked loop is unknown to a split and to a second mark.
abbrev pub find_open : List ℕ → List Loop → Option Loop
find_open name stage_loops = open_of (find name stage_loops)

-- ---- a loop is split

abbrev pub is_shift : Tail → Bool
is_shift tails.Guard = false
is_shift tails.Shift = true

-- A new name is free where no loop of the stage has it, the one that is split among them. A factor is 1 to 64, a
-- stage has at most 5 loops, and loops of an update aren't shifted.
abbrev pub split_fault : Bool → Stage → SplitLine → Option ScheduleFault
split_fault is_update stage line =
    if is_known line.outer stage.loops || is_known line.inner stage.loops || bytes_eq line.outer line.inner then Some fault.NameInUse
    else if nat_lt line.factor 1 || nat_lt 64 line.factor || nat_le 5 (length stage.loops) then Some fault.Limit
    else if is_update && is_shift line.tail then Some fault.ShiftOnUpdate
    else None

-- the inner loop and, just outside it, the outer one, of the split at this place of its stage
abbrev pub parts : Loop → ℕ → SplitLine → List Loop
parts stage_loop place line =
    let shifted = stage_loop.is_from_shift || is_shift line.tail in
    record { id = ids.Inner place; name = line.inner; variable = stage_loop.variable; inner_of = Some line.factor; is_from_shift = shifted; marked = None }
    ∷ record { id = ids.Outer place; name = line.outer; variable = stage_loop.variable; inner_of = None; is_from_shift = shifted; marked = None }
    ∷ []

abbrev pub split_loop : Stage → Loop → SplitLine → Stage
split_loop stage stage_loop line = record {
  loops = replaced line.of (parts stage_loop (length stage.splits) line) stage.loops;
  splits = stage.splits ++ record { of = stage_loop.id; factor = line.factor; tail = line.tail } ∷ [];
}

abbrev pub settled_split : Stage → Loop → SplitLine → Option ScheduleFault → Result Stage ScheduleFault
settled_split stage stage_loop line None = Ok (split_loop stage stage_loop line)
settled_split stage stage_loop line (Some wrong) = Err wrong

abbrev pub split_of : Bool → Stage → SplitLine → Option Loop → Result Stage ScheduleFault
split_of is_update stage line None = Err fault.UnknownLoop
split_of is_update stage line (Some own) = settled_split stage own line (split_fault is_update stage line)

abbrev pub split : Bool → Stage → SplitLine → Result Stage ScheduleFault
split is_update stage line = split_of is_update stage line (find_open line.of stage.loops)

-- ---- loops change places

abbrev pub are_known : List Loop → List (List ℕ) → Bool
are_known stage_loops [] = true
are_known stage_loops (first ∷ others) = is_known first stage_loops && are_known stage_loops others

abbrev pub is_among : List ℕ → List (List ℕ) → Bool
is_among name [] = false
is_among name (first ∷ others) = bytes_eq first name || is_among name others

abbrev pub is_twice_among : List ℕ → List (List ℕ) → Bool
is_twice_among name [] = false
is_twice_among name (first ∷ others) = if bytes_eq first name then is_among name others else is_twice_among name others

-- One of the loops is named twice.
abbrev pub has_twice : List Loop → List (List ℕ) → Bool
has_twice [] names = false
has_twice (first ∷ others) names = is_twice_among first.name names || has_twice others names

abbrev pub or_else : Loop → Option Loop → Loop
or_else other None = other
or_else other (Some own) = own

abbrev pub find_or : List ℕ → List Loop → Loop → Loop
find_or name stage_loops other = or_else other (find name stage_loops)

-- In the places of the loops that are named stand those with the names that are left, in the order of the names.
-- The others keep their places.
abbrev pub reordered_from : List Loop → List (List ℕ) → List (List ℕ) → List Loop → List Loop
reordered_from stage_loops names left [] = []
reordered_from stage_loops names [] (first ∷ others) = first ∷ reordered_from stage_loops names [] others
reordered_from stage_loops names (name ∷ behind) (first ∷ others) =
    if is_among first.name names
    then find_or name stage_loops first ∷ reordered_from stage_loops names behind others
    else first ∷ reordered_from stage_loops names (name ∷ behind) others

abbrev pub reordered : List Loop → List (List ℕ) → List Loop
reordered stage_loops names = reordered_from stage_loops names names stage_loops

-- which loops are over reduction variables, innermost first
abbrev pub reductions : List Loop → List LoopId
reductions [] = []
reductions (first ∷ others) = if is_reduction first.variable then first.id ∷ reductions others else reductions others

abbrev pub same_ids : List LoopId → List LoopId → Bool
same_ids [] [] = true
same_ids (first ∷ behind) (second ∷ rest) = same_id first second && same_ids behind rest
same_ids _ _ = false

-- Loops are named once, and those over reduction variables keep their order.
abbrev pub reorder : Stage → List (List ℕ) → Result Stage ScheduleFault
reorder stage names =
    if not (are_known stage.loops names) then Err fault.UnknownLoop
    else if has_twice stage.loops names then Err fault.ReductionOrder
    else if not (same_ids (reductions stage.loops) (reductions (reordered stage.loops names))) then Err fault.ReductionOrder
    else Ok (record { loops = reordered stage.loops names; splits = stage.splits })

-- ---- a loop is marked

abbrev pub with_mark : Loop → Marked → Loop
with_mark stage_loop marked = record {
  id = stage_loop.id;
  name = stage_loop.name;
  variable = stage_loop.variable;
  inner_of = stage_loop.inner_of;
  is_from_shift = stage_loop.is_from_shift;
  marked =
      Some marked;
}

abbrev pub mark_loop : Stage → Loop → List ℕ → Marked → Stage
mark_loop stage stage_loop name marked = record { loops = replaced name (with_mark stage_loop marked ∷ []) stage.loops; splits = stage.splits }

-- What is unrolled is the inner loop of a split.
abbrev pub is_bad_unroll : Mark → Loop → Bool
is_bad_unroll mark stage_loop = same_mark mark marks.Unrolled && not (is_some stage_loop.inner_of)

abbrev pub mark_of : Stage → List ℕ → Marked → Option Loop → Result Stage ScheduleFault
mark_of stage name marked None = Err fault.UnknownLoop
mark_of stage name marked (Some own) = if is_bad_unroll marked.mark own then Err fault.UnrolledLoop else Ok (mark_loop stage own name marked)

abbrev pub mark : Stage → List ℕ → Marked → Result Stage ScheduleFault
mark stage name marked = mark_of stage name marked (find_open name stage.loops)

-- ---- the stage after a line about its loops, which has this number, or the line's least fault
unfoldable pub directed : Bool → Stage → ℕ → LoopDirective → Result Stage ScheduleFault
directed is_update stage line (on_loops.Split s) = split is_update stage s
directed is_update stage line (on_loops.Reorder names) = reorder stage names
directed is_update stage line (on_loops.Mark kind name) = mark stage name (record { mark = kind; line = line })
