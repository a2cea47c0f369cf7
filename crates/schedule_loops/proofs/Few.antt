-- A stage has few splits, of small factors.
use Rattle.std.proofs.Common.{◌≡◌, ℕ, ◌+◌, ◌≤◌, Bool, true, false, cond, List, [], ◌∷◌, ◌++◌, length, Option, Some, None, refl, arith, length-append}
use Rattle.std.specs.Prelude.{is_some}
use Rattle.std.specs.List.{AllByRecursion}
use Rattle.halide_pipeline.specs.declared.definitions.Func.{Func}
use Rattle.halide_pipeline.specs.declared.definitions.Update.{Update}
use Rattle.halide_pipeline.specs.declared.expressions.Variable.TheVariants as variables
use Rattle.schedule_lines.specs.declared.stages.Loop.{Loop}
use Rattle.schedule_lines.specs.declared.stages.LoopId.{LoopId}
use Rattle.schedule_lines.specs.declared.stages.LoopId.TheVariants as ids
use Rattle.schedule_lines.specs.declared.stages.Split.{Split}
use Rattle.schedule_lines.specs.declared.stages.Stage.{Stage}
use Rattle.schedule_lines.specs.Directives.{same_id}
use Rattle.schedule_lines.specs.Making.{total}
use Rattle.schedule.specs.Plans.{with_loop, with_second}
use Rattle.schedule_loops.specs.Visits.{IsFactor, AreSplits}
use Rattle.schedule_loops.specs.Stages.{has_variable, first_loops, IsStageOf}
use Rattle.schedule_loops.proofs.Nesting.{has_id}
use Rattle.schedule_loops.proofs.Making.{Stays, by_making, split_by, total_parts, bare_total}
use Rattle.schedule_loops.proofs.FirstLoops.{plain, there, update_start}

abbrev one : Loop → ℕ
one stage_loop = 1

length_total : (loops : List Loop) → length loops ≡ total one loops
length_total [] = refl
length_total (own ∷ loops) = omega (arith, length_total loops)

pub record Few (start loops : List Loop) (splits : List Split) : Type 0 where
  pub count : total one loops ≡ total one start + length splits
  pub factors : AllByRecursion IsFactor splits

factors_more : (splits : List Split) (split : Split) → AllByRecursion IsFactor splits → IsFactor split → AllByRecursion IsFactor (splits ++ split ∷ [])
factors_more [] split all is = (is, tt)
factors_more (first ∷ splits) split all is = (all.0, factors_more splits split all.1 is)

few_stays : (is_update : Bool) (start : List Loop) → Stays is_update start (Few start)
few_stays is_update start = record {
  begun = record { count = omega arith; factors = tt };
  parted = λ before own after splits line is few. record {
    count = omega (arith, total_parts one before own after (length splits) line, length-append splits (split_by own line ∷ []), few.count);
    factors = factors_more splits (split_by own line) few.factors (record { some = is.some; few = is.few });
  };
  marked = λ loops new splits same few. record { count = omega (arith, bare_total one (λ own. refl) new loops same, few.count); factors = few.factors };
  moved = λ loops new splits same order few. record { count = omega (arith, same one, few.count); factors = few.factors };
}

has_one : (test : Bool) → cond {A = ℕ} test 1 0 ≤ 1
has_one true = omega arith
has_one false = omega arith

has_few : (id : LoopId) (loops : List Loop) → total (has_id id) loops ≤ total one loops
has_few id [] = omega arith
has_few id (own ∷ loops) = omega (arith, has_one (same_id own.id id), has_few id loops)

first_there : (first : List ℕ) (second : Option (List ℕ)) → has_variable variables.FirstArgument (with_second (with_loop [] first variables.FirstArgument)
    second variables.SecondArgument) ≡ true
first_there first None = refl
first_there first (Some name) = refl

some_loop : (func : Func) (update : Option Update) → 1 ≤ total one (first_loops func update)
some_loop func None =
    let l : 1 ≤ total (has_id (ids.Whole variables.FirstArgument)) (first_loops func None) = there variables.FirstArgument (first_loops func None)
    (plain func None) (first_there func.first_argument func.second_argument) in
    omega (arith, has_few (ids.Whole variables.FirstArgument) (first_loops func None))
some_loop func (Some update) =
    let l : 1 ≤ total (has_id (ids.Whole variables.FirstReduction)) (first_loops func (Some update)) = there variables.FirstReduction
    (first_loops func (Some update)) (plain func (Some update)) (update_start func update).one in
    omega (arith, has_few (ids.Whole variables.FirstReduction) (first_loops func (Some update)))

pub few_splits : (func : Func) (update : Option Update) (stage : Stage) → IsStageOf func update stage → AreSplits stage.splits
few_splits func update stage is =
    let few : Few (first_loops func update) stage.loops stage.splits = by_making (Few (first_loops func update)) (few_stays (is_some update)
    (first_loops func update)) is.made in
    record { few = omega (arith, few.count, length_total stage.loops, is.few, some_loop func update); factors = few.factors }
