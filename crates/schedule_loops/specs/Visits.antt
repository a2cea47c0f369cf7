-- What the loops of a stage visit, and in which order. Loops stand innermost first.
--
-- A split loop's value is `outer * factor + inner`; under a shift the least of `outer * factor` and extent - factor takes the place of the
-- product. What lies past the extent is left out.
-- This project's own.
use Rattle.std.specs.Prelude.{ℕ, zero, suc, ◌+◌, ◌-◌, ◌*◌, min, Bool, ◌&&◌, ◌==◌, nat_lt, if◌then◌else◌, List, [], ◌∷◌, ◌++◌, filter, ◌≤◌, ◌/◌, true, false}
use Rattle.std.specs.Prelude.{not, ◌||◌, nat_le, length, ◌≡◌, ◌≢◌, ◌<◌, map, Option, Some, None}
use Rattle.std.specs.List.{AllByRecursion, list_any}
use Rattle.halide_pipeline.specs.declared.expressions.Variable.TheVariants as variables
use Rattle.halide_pipeline.specs.declared.expressions.Variable.{Variable}
use Rattle.schedule_lines.specs.declared.stages.Loop.{Loop}
use Rattle.schedule_lines.specs.declared.stages.LoopId.TheVariants as ids
use Rattle.schedule_lines.specs.declared.stages.Split.{Split}
use Rattle.schedule_lines.specs.declared.stages.Stage.{Stage}
use Rattle.schedule_lines.specs.declared.stages.Tail.{Tail}
use Rattle.schedule_lines.specs.declared.stages.Tail.TheVariants as tails
use Rattle.schedule_lines.specs.declared.stages.LoopId.{LoopId}
use Rattle.schedule_lines.specs.Directives.{is_shift, same_id, find_marked}
use Rattle.schedule_loops.specs.declared.extents.Extents.{Extents}
use Rattle.schedule_lines.specs.declared.stages.Mark.TheVariants as marks

-- ---- How many iterations each loop of a stage has, and how far one iteration of it takes its variable.
--
-- A loop over a whole variable has an iteration for each value of it, and takes it one further. A split of a loop uses the numbers of that
-- loop as they were when it was made: the inner loop has `factor` iterations of the same stride, and the outer one as many as it takes to
-- reach the extent, with a stride `factor` times as long.

-- a number for each loop: the iteration that it is in, from 0, how many iterations it has, or how far an iteration goes
abbrev pub Values : Type 0
Values = LoopId → ℕ

-- one loop has another value
abbrev pub with : {A : Type 0} → LoopId → A → (LoopId → A) → LoopId → A
with id value values other = if same_id other id then value else values other

abbrev pub extent_of : Extents → Variable → ℕ
extent_of extents variables.FirstArgument = extents.first_argument
extent_of extents variables.SecondArgument = extents.second_argument
extent_of extents variables.FirstReduction = extents.first_reduction
extent_of extents variables.SecondReduction = extents.second_reduction

-- ---- iterations

-- before any split
abbrev pub whole_counts : Extents → Values
whole_counts extents (ids.Whole variable) = extent_of extents variable
whole_counts extents (ids.Outer place) = 0
whole_counts extents (ids.Inner place) = 0

-- how often the factor goes into the extent, rounded up
abbrev pub outer_extent : ℕ → ℕ → ℕ
outer_extent extent factor = (extent + (factor - 1)) / factor

-- the loops of the split at this place have iterations too
abbrev pub more_counts : Values → ℕ → Split → Values
more_counts counts place split = with (ids.Inner place) split.factor (with (ids.Outer place) (outer_extent (counts split.of) split.factor) counts)

-- the same of all splits, the first of which has this place
abbrev pub counts_from : Values → ℕ → List Split → Values
counts_from counts place [] = counts
counts_from counts place (split ∷ others) = counts_from (more_counts counts place split) (suc place) others

abbrev pub counts : Extents → List Split → Values
counts extents splits = counts_from (whole_counts extents) 0 splits

-- ---- strides

abbrev pub whole_strides : Values
whole_strides (ids.Whole variable) = 1
whole_strides (ids.Outer place) = 0
whole_strides (ids.Inner place) = 0

abbrev pub more_strides : Values → ℕ → Split → Values
more_strides strides place split = with (ids.Inner place) (strides split.of) (with (ids.Outer place) (strides split.of * split.factor) strides)

abbrev pub strides_from : Values → ℕ → List Split → Values
strides_from strides place [] = strides
strides_from strides place (split ∷ others) = strides_from (more_strides strides place split) (suc place) others

abbrev pub strides : List Split → Values
strides splits = strides_from whole_strides 0 splits

-- ---- A loop is uneven where its last iteration may take the variable less far than its stride: the outer loop of a shifted split, and
-- both loops that an uneven one is split into.

abbrev pub more_uneven : (LoopId → Bool) → ℕ → Split → LoopId → Bool
more_uneven uneven place split = with (ids.Inner place) (uneven split.of) (with (ids.Outer place) (uneven split.of || is_shift split.tail) uneven)

abbrev pub uneven_from : (LoopId → Bool) → ℕ → List Split → LoopId → Bool
uneven_from uneven place [] = uneven
uneven_from uneven place (split ∷ others) = uneven_from (more_uneven uneven place split) (suc place) others

abbrev pub is_uneven : List Split → LoopId → Bool
is_uneven splits = uneven_from (λ id. false) 0 splits

-- ---- A shifted split needs a loop of at least one whole iteration: its extent is not below the factor.

abbrev pub shift_fits : Values → Split → Bool
shift_fits counts split = not (is_shift split.tail) || nat_le split.factor (counts split.of)

abbrev pub shifts_fit_from : Values → ℕ → List Split → Bool
shifts_fit_from counts place [] = true
shifts_fit_from counts place (split ∷ others) = shift_fits counts split && shifts_fit_from (more_counts counts place split) (suc place) others

abbrev pub shifts_fit : Extents → List Split → Bool
shifts_fit extents splits = shifts_fit_from (whole_counts extents) 0 splits

-- ---- the splits of a stage of at most 5 loops

pub record IsFactor (split : Split) : Type 0 where
  pub some : 1 ≤ split.factor
  pub few : split.factor ≤ 64

pub record AreSplits (splits : List Split) : Type 0 where
  pub few : length splits ≤ 4
  pub factors : AllByRecursion IsFactor splits

-- ---- nests

-- what the iterations 0 to n - 1 list, one after the other
unfoldable pub upto : {A : Type 0} → ℕ → (ℕ → List A) → List A
upto zero list = []
upto (suc n) list = upto n list ++ list n

-- what a body lists under all iterations of the loops
abbrev pub nest : {A : Type 0} → Values → List Loop → (Values → List A) → Values → List A
nest counts [] body values = body values
nest counts (own ∷ outside) body values =
    nest counts outside (λ outer. upto (counts own.id) (λ iteration. body (with own.id iteration outer))) values

-- ---- splits

-- where an iteration of the outer loop begins
abbrev pub begin_of : Tail → ℕ → ℕ → ℕ → ℕ
begin_of tails.Guard factor extent outer = outer * factor
begin_of tails.Shift factor extent outer = min (outer * factor) (extent - factor)

-- the value of the loop that is split, from those of the loops of the split at this place
abbrev pub whole_of : Values → ℕ → Split → Values → ℕ
whole_of counts place split values = begin_of split.tail split.factor (counts split.of) (values (ids.Outer place)) + values (ids.Inner place)

-- a body over the loop that is split, as one over the loops of the split
abbrev pub split_body : {A : Type 0} → Values → ℕ → Split → (Values → List A) → Values → List A
split_body counts place split body values =
    if nat_lt (whole_of counts place split values) (counts split.of) then body (with split.of (whole_of counts place split values) values) else []

-- the same of all splits, the first of which has this place
abbrev pub split_bodies : {A : Type 0} → Values → ℕ → List Split → (Values → List A) → Values → List A
split_bodies counts place [] body = body
split_bodies counts place (split ∷ others) body = split_bodies (more_counts counts place split) (suc place) others (split_body counts place split body)

-- a body over whole variables, as one over the loops that splits leave
abbrev pub over_loops : {A : Type 0} → Extents → List Split → (Values → List A) → Values → List A
over_loops extents splits body = split_bodies (whole_counts extents) 0 splits body

-- no loop has begun
abbrev pub zeros : Values
zeros id = 0

-- what a body over whole variables lists under the loops of a stage
abbrev pub listed_by : {A : Type 0} → Extents → Stage → (Values → List A) → List A
listed_by extents stage body = nest (counts extents stage.splits) stage.loops (over_loops extents stage.splits body) zeros

-- ---- visits

-- The arguments, from the corner of what is visited, and the number of the reduction point in the order of the run, the first variable
-- innermost. What no loop is over stays 0.
pub record Visit : Type 0 where
  pub x : ℕ
  pub y : ℕ
  pub number : ℕ

abbrev pub visit_of : Extents → Values → Visit
visit_of extents values = record {
  x = values (ids.Whole variables.FirstArgument);
  y = values (ids.Whole variables.SecondArgument);
  number = values (ids.Whole variables.SecondReduction) * extents.first_reduction + values (ids.Whole variables.FirstReduction);
}

-- what a stage visits, in order
abbrev pub visits : Extents → Stage → List Visit
visits extents stage = listed_by extents stage (λ values. visit_of extents values ∷ [])

-- ---- slices: the visits with the same arguments

abbrev pub is_slice : ℕ → ℕ → Visit → Bool
is_slice x y visit = visit.x == x && visit.y == y

abbrev pub slice : ℕ → ℕ → List Visit → List Visit
slice x y visits = filter (is_slice x y) visits

-- this many points of a slice, in order
abbrev pub rising : ℕ → ℕ → ℕ → ℕ → List Visit
rising x y from zero = []
rising x y from (suc count) = record { x = x; y = y; number = from } ∷ rising x y (suc from) count

-- ---- Iterations of the parallel loop of a stage: what each visits, and which points it writes. A stage without such a loop has the one
-- iteration 0.

abbrev pub parallel : Stage → Option Loop
parallel stage = find_marked marks.Parallel stage.loops

abbrev pub count_of : Values → Option Loop → ℕ
count_of counts None = 1
count_of counts (Some own) = counts own.id

abbrev pub iteration_count : Extents → Stage → ℕ
iteration_count extents stage = count_of (counts extents stage.splits) (parallel stage)

abbrev pub is_iteration_of : Option Loop → ℕ → Values → Bool
is_iteration_of None iteration values = iteration == 0
is_iteration_of (Some own) iteration values = values own.id == iteration

-- what the iteration with this number visits, in order: that of the stage's visits where the parallel loop has this value
abbrev pub visits_in : Extents → Stage → ℕ → List Visit
visits_in extents stage number =
    nest (counts extents stage.splits) stage.loops
    (λ values. if is_iteration_of (parallel stage) number values then over_loops extents stage.splits (λ whole. visit_of extents whole ∷ []) values else [])
    zeros

-- The points that an iteration writes, where the left side names this point at a visit. Of a pure definition that is the visit's own
-- point.
abbrev pub points_written : (Visit → ℕ × ℕ) → Extents → Stage → ℕ → List (ℕ × ℕ)
points_written left extents stage number = map left (visits_in extents stage number)

abbrev pub own_point : Visit → ℕ × ℕ
own_point visit = (visit.x, visit.y)

-- ---- iterations in any order

-- what the iterations of a list visit, one after the other
abbrev pub in_order : {A : Type 0} → (ℕ → List A) → List ℕ → List A
in_order task [] = []
in_order task (first ∷ others) = task first ++ in_order task others

abbrev pub times : ℕ → List ℕ → ℕ
times n [] = 0
times n (first ∷ others) = (if first == n then 1 else 0) + times n others

-- Each number below this one is once in the list, and no other.
pub record IsOrder (count : ℕ) (order : List ℕ) : Type 0 where
  pub once : (n : ℕ) → n < count → times n order ≡ 1
  pub no_other : (n : ℕ) → count ≤ n → times n order ≡ 0

-- A slice belongs to one of this many iterations: no other visits it.
pub record HasOwner (count : ℕ) (iteration : ℕ → List Visit) (x y : ℕ) : Type 0 where
  pub owner : ℕ
  pub is_iteration : owner < count
  pub no_other : (n : ℕ) → n < count → n ≢ owner → slice x y (iteration n) ≡ []

-- The task with this number owns the point: its iteration visits it.
abbrev pub owns : Extents → Stage → ℕ → ℕ → ℕ → Bool
owns extents stage number x y = list_any (is_slice x y) (visits_in extents stage number)
