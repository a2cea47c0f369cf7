-- Wherever loops take arguments, they lie in the views with which Funcs at loops are asked.
use Rattle.std.proofs.Common.{◌≡◌, ℕ, zero, suc, ◌<◌, ◌≤◌, Bool, true, false, cond, List, [], ◌∷◌, length, take, drop, Option, Some, None, refl, sym, ap, ◌∙◌}
use Rattle.std.proofs.Common.{subst, arith}
use Rattle.std.specs.Prelude.{◌==◌, nat_lt, slice_get, slice_index_or}
use Rattle.std.specs.List.{AllByRecursion}
use Rattle.std.proofs.lemmas.Bool.{and_parts, eqb-true}
use Rattle.std.proofs.lemmas.List.{take-append-drop, length-take-le}
use Rattle.halide_pipeline.specs.declared.definitions.Func.{Func}
use Rattle.halide_pipeline.specs.Pipelines.{Pipeline}
use Rattle.schedule_lines.specs.declared.stages.Loop.{Loop}
use Rattle.schedule_lines.specs.declared.stages.LoopId.{LoopId}
use Rattle.schedule_lines.specs.Directives.{same_id}
use Rattle.schedule.specs.declared.plans.FuncPlan.{FuncPlan}
use Rattle.schedule.specs.declared.schedules.Schedule.{Schedule}
use Rattle.schedule.specs.declared.placements.LoopPosition.{LoopPosition}
use Rattle.schedule.specs.declared.placements.ComputeLevel.{ComputeLevel}
use Rattle.schedule.specs.declared.placements.ComputeLevel.TheVariants as places
use Rattle.schedule.specs.declared.placements.FuncPlacement.{FuncPlacement}
use Rattle.schedule.specs.Accepted.{Pairwise, IsPlan, IsProduced as HasConsumer}
use Rattle.schedule.specs.Legal.{is_root}
use Rattle.schedule.specs.Placements.{comes_first, is_within, pure_loops_of}
use Rattle.schedule.specs.Uses.{StandsWithin, Consumer, Computed, Inlined, IsRootReached, HasConsumerAtRoot}
use Rattle.schedule.proofs.Uses.{numbered_at}
use Rattle.schedule_loops.specs.Visits.{Values, counts}
use Rattle.schedule_loops.specs.Reach.{wholes}
use Rattle.schedule_loops.specs.Runs.{AreIterations}
use Rattle.bounds_ranges.specs.Laws.{Below}
use Rattle.bounds.specs.declared.boxes.ConsumerLoop.{ConsumerLoop}
use Rattle.bounds.specs.declared.boxes.SourceBox.{SourceBox}
use Rattle.bounds.specs.Boxes.{lasts_of}
use Rattle.bounds.specs.Extents.{box_in, extents_of}
use Rattle.bounds_laws.specs.ConsumerLaws.{iteration_of, iteration_at, iterations_from, IsTakenTo, AgreeFrom, IsProduced, AreIterationsFrom, values_in, IsReachedIn, MayBeArguments}
use Rattle.bounds_laws.specs.ConsumerLaws.{IsSeenIn, ArgumentsLieInViews}
use Rattle.bounds.specs.Inference.{consumer_of}
use Rattle.bounds_laws.specs.Laws.{LiesIn, consumer_in, IsComputed}
use Rattle.bounds.specs.Views.{inner_count, lasts_in, consumer_loop, consumer_loop_in, consumer_view, consumer_view_in, settled_box, view_of}
use Rattle.bounds_laws.proofs.BoxesProduced.{boxes_are_produced}
use Rattle.bounds_laws.proofs.ConsumerArguments.{iterations_below, consumer_arguments_lie}
use Rattle.bounds_laws.proofs.Settled.{settled_boxes_hold}

-- ---- lists

pub same : {A : Type 0} (a b : A) → Some a ≡ Some b → a ≡ b
same a b e = cc

all_contain : {A : Type 0} (P : A → Type 0) (xs : List A) → AllByRecursion P xs → (x : A) (k : ℕ) → k < length xs → slice_index_or xs k x ≡ x → P x
all_contain P [] all x k l e = absurd (omega (arith, l))
all_contain P (first ∷ xs) all x zero l e = subst P e all.0
all_contain P (first ∷ xs) all x (suc k) l e = all_contain P xs all.1 x k (omega (arith, l)) e

pair_at : (funcs : List Func) (plans : List FuncPlan) → Pairwise IsPlan funcs plans → (k : ℕ) (func : Func) (plan : FuncPlan) → slice_get funcs k ≡ Some func
    → slice_get plans k ≡ Some plan → IsPlan func plan
pair_at [] [] all zero func plan f p = absurd cc
pair_at [] [] all (suc k) func plan f p = absurd cc
pair_at [] (own ∷ plans) all k func plan f p = absurd all
pair_at (first ∷ funcs) [] all k func plan f p = absurd all
pair_at (first ∷ funcs) (own ∷ plans) all zero func plan f p = subst (λ (g : Func). IsPlan g plan) (same first func f) (subst (λ (q : FuncPlan). IsPlan first q)
    (same own plan p) all.0)
pair_at (first ∷ funcs) (own ∷ plans) all (suc k) func plan f p = pair_at funcs plans all.1 k func plan f p

-- ---- loops inside one, and inside one further out

count_by : (test : Bool) (n m : ℕ) → n ≤ m → cond test 0 (suc n) ≤ suc m
count_by true n m l = omega arith
count_by false n m l = omega (arith, l)

count_few : (id : LoopId) (loops : List Loop) → inner_count id loops ≤ length loops
count_few id [] = omega arith
count_few id (first ∷ outside) = count_by (same_id first.id id) (inner_count id outside) (length outside) (count_few id outside)

first_by : (bool other rest : Bool) (n m : ℕ) → cond bool true (cond other false rest) ≡ true → (rest ≡ true → n ≤ m) → cond bool 0 (suc n) ≤ cond other 0 (suc m)
first_by true other rest n m e l = omega arith
first_by false true rest n m e l = absurd cc
first_by false false rest n m e l = let k : n ≤ m = l e in omega (arith, k)

count_first : (loop_id other : LoopId) (loops : List Loop) → comes_first loop_id other loops ≡ true → inner_count loop_id loops ≤ inner_count other loops
count_first loop_id other [] e = absurd cc
count_first loop_id other (first ∷ outside) e =
    first_by (same_id first.id loop_id) (same_id first.id other) (comes_first loop_id other outside) (inner_count loop_id outside) (inner_count other outside) e
    (λ r. count_first loop_id other outside r)

iterations_drop : (counts : Values) (n : ℕ) (loops : List Loop) (iterations : Values) → AreIterations counts loops iterations → AreIterations counts (drop n loops) iterations
iterations_drop counts zero loops iterations are = are
iterations_drop counts (suc n) [] iterations are = are
iterations_drop counts (suc n) (first ∷ others) iterations are = iterations_drop counts n others iterations are.1

iterations_further : (counts : Values) (n m : ℕ) (loops : List Loop) (iterations : Values) → n ≤ m → AreIterations counts (drop n loops) iterations
    → AreIterations counts (drop m loops) iterations
iterations_further counts zero m loops iterations l are = iterations_drop counts m loops iterations are
iterations_further counts (suc n) zero loops iterations l are = absurd (omega (arith, l))
iterations_further counts (suc n) (suc m) [] iterations l are = are
iterations_further counts (suc n) (suc m) (first ∷ others) iterations l are = iterations_further counts n m others iterations (omega (arith, l)) are

-- iterations from a loop on agree with those from one further out, from that one on
module _ (iterations : Values) (loops : List Loop) (n m : ℕ) (few : n ≤ m) where
  agree_at : (at : ℕ) → m ≤ at → iteration_at n iterations loops at ≡ iteration_at m iterations loops at
  agree_at at l =
      ap (λ (test : Bool). cond test 0 (iteration_of iterations (slice_get loops at))) (above at n (omega (arith, few, l)) ∙ sym (above at m l))
    where
      above : (a b : ℕ) → b ≤ a → nat_lt a b ≡ false
      above a b l = grind (arith, l)

  agree_by : (k : ℕ) → k ≡ m → AgreeFrom k (iterations_from n iterations loops) (iterations_from m iterations loops)
  agree_by zero e = (
    agree_at 0 (omega (arith, e)),
    (
      agree_at 1 (omega (arith, e)),
      (
        agree_at 2 (omega (arith, e)),
        (
          agree_at 3 (omega (arith, e)),
          (agree_at 4 (omega (arith, e)), tt),
        ),
      ),
    ),
  )
  agree_by (suc zero) e = (agree_at 1 (omega (arith, e)), (agree_at 2 (omega (arith, e)), (agree_at 3 (omega (arith, e)), (agree_at 4 (omega (arith, e)), tt))))
  agree_by (suc (suc zero)) e = (agree_at 2 (omega (arith, e)), (agree_at 3 (omega (arith, e)), (agree_at 4 (omega (arith, e)), tt)))
  agree_by (suc (suc (suc zero))) e = (agree_at 3 (omega (arith, e)), (agree_at 4 (omega (arith, e)), tt))
  agree_by (suc (suc (suc (suc zero)))) e = (agree_at 4 (omega (arith, e)), tt)
  agree_by (suc (suc (suc (suc (suc k))))) e = tt

  agree : AgreeFrom m (iterations_from n iterations loops) (iterations_from m iterations loops)
  agree = agree_by m refl

-- ---- where the reads stand

data Stands (plans : List FuncPlan) (consumer : LoopPosition) (reader : ℕ) (level : ComputeLevel) : Type 0 where
  IsTheConsumer : reader ≡ consumer.func → Stands plans consumer reader level
  IsInside : (at : LoopPosition) → level ≡ places.At at → is_within plans consumer at ≡ true → Stands plans consumer reader level
  IsInlined : level ≡ places.Inlined → Stands plans consumer reader level

stands : (pipeline : Pipeline) (plans : List FuncPlan) (standings : List FuncPlacement) (consumer : LoopPosition) (reader : ℕ)
    → StandsWithin pipeline plans standings consumer reader
    → (its : FuncPlacement) → slice_get standings reader ≡ Some its → Stands plans consumer reader its.place
stands pipeline plans standings consumer _ Consumer its there = IsTheConsumer refl
stands pipeline plans standings consumer _ (Computed reader own at reached placed within) its there =
    IsInside at (ap (λ (s : FuncPlacement). s.place) (same its own (sym there ∙ reached.standing)) ∙ placed) within
stands pipeline plans standings consumer _ (Inlined reader own reached placed calls) its there =
    IsInlined (ap (λ (s : FuncPlacement). s.place) (same its own (sym there ∙ reached.standing)) ∙ placed)

-- ---- views

pub consumer_is : (schedule : Schedule) (boxes : List (Option SourceBox)) (level : ComputeLevel) (at : LoopPosition) (func : ℕ) (plan : FuncPlan) (consuming : SourceBox)
    → level ≡ places.At at → at.func ≡ func
    → slice_get schedule.funcs func ≡ Some plan → slice_get boxes func ≡ Some (Some consuming)
    → consumer_in schedule boxes level ≡ Some (consumer_loop plan consuming at.inside)
consumer_is schedule boxes level at func plan consuming is same_func plan_is box_is =
    ap (λ (p : ComputeLevel). consumer_in schedule boxes p) is
    ∙ ap (λ (n : ℕ). consumer_of at (slice_get schedule.funcs n) (box_in (slice_get boxes n))) same_func
    ∙ ap (λ (p : Option FuncPlan). consumer_of at p (box_in (slice_get boxes func))) plan_is
    ∙ ap (λ (b : Option (Option SourceBox)). consumer_of at (Some plan) (box_in b)) box_is

root_view : (plan : FuncPlan) (its : FuncPlacement) (source_box : SourceBox) (consumer : ConsumerLoop) → its.place ≡ places.Root
    → view_of (Some plan) (Some its) source_box (Some consumer) ≡ consumer_view plan.pure source_box consumer
root_view plan its source_box consumer root = ap (λ (p : ComputeLevel). cond (is_root p) (consumer_view plan.pure source_box consumer) (settled_box consumer.inner source_box)) root

loop_view : (plan : Option FuncPlan) (its : FuncPlacement) (at : LoopPosition) (source_box : SourceBox) (consumer : ConsumerLoop) → its.place ≡ places.At at
    → view_of plan (Some its) source_box (Some consumer) ≡ settled_box consumer.inner source_box
loop_view None its at source_box consumer is = ap (λ (p : ComputeLevel). cond (is_root p) source_box (settled_box consumer.inner source_box)) is
loop_view (Some plan) its at source_box consumer is = ap (λ (p : ComputeLevel). cond (is_root p) (consumer_view plan.pure source_box consumer) (settled_box consumer.inner source_box)) is

lasts_are : (plan : FuncPlan) (source_box : SourceBox) (id : LoopId) → (consumer_loop plan source_box id).lasts ≡ lasts_in (extents_of source_box) plan.pure.splits plan.pure.loops
unfolding consumer_loop_in
lasts_are plan source_box id = refl

inner_is : (plan : FuncPlan) (source_box : SourceBox) (id : LoopId) → (consumer_loop plan source_box id).inner ≡ inner_count id plan.pure.loops
unfolding consumer_loop_in
inner_is plan source_box id = refl

view_lasts : (plan : FuncPlan) (source_box : SourceBox) (consumer : ConsumerLoop) → (consumer_view plan.pure source_box consumer).lasts ≡ consumer.lasts
unfolding consumer_view_in
view_lasts plan source_box consumer = refl

-- ---- the consumer's own arguments

module _ (func : Func) (plan : FuncPlan) (consuming : SourceBox) (planned : IsPlan func plan) (id : LoopId) (iterations : Values) where
  abbrev Inner : ℕ
  Inner = inner_count id plan.pure.loops

  abbrev Bases : List ℕ
  Bases = values_in plan id iterations

  seen_by : (n : ℕ) → n ≡ Inner → (Below (iterations_from n iterations plan.pure.loops) (consumer_loop plan consuming id).lasts)
      × AllByRecursion
      (λ whole. (x y : ℕ) → IsTakenTo func consuming whole x y
      → LiesIn (iterations_from n iterations plan.pure.loops) (consumer_view plan.pure consuming (consumer_loop plan consuming id)) x y)
      (wholes (extents_of consuming) plan.pure.splits (take Inner plan.pure.loops) iterations)
      → (x y : ℕ) → IsReachedIn func plan consuming id iterations x y
      → IsSeenIn Bases (Some (consumer_loop plan consuming id)) (consumer_view plan.pure consuming (consumer_loop plan consuming id)) x y
  seen_by n e all x y at =
      let values_are : iterations_from n iterations plan.pure.loops ≡ Bases = ap (λ (k : ℕ). iterations_from k iterations plan.pure.loops) e in
      let below : Below Bases (consumer_loop plan consuming id).lasts = subst (λ (v : List ℕ). Below v (consumer_loop plan consuming id).lasts) values_are all.0
      in
      record {
        produced = below;
        below = subst (λ (l : List ℕ). Below Bases l) (sym (view_lasts plan consuming (consumer_loop plan consuming id))) below;
        lies = subst (λ (v : List ℕ). LiesIn v (consumer_view plan.pure consuming (consumer_loop plan consuming id)) x y) values_are
            (all_contain (λ whole. (x y : ℕ) → IsTakenTo func consuming whole x y
            → LiesIn (iterations_from n iterations plan.pure.loops) (consumer_view plan.pure consuming (consumer_loop plan consuming id)) x y)
            (wholes (extents_of consuming) plan.pure.splits (take Inner plan.pure.loops) iterations) all.1 at.whole at.visited.0 at.visited.1 at.visited.2 x y
            at.taken);
      }

  root_seen : (x y : ℕ) → IsReachedIn func plan consuming id iterations x y
      → IsSeenIn Bases (Some (consumer_loop plan consuming id)) (consumer_view plan.pure consuming (consumer_loop plan consuming id)) x y
  root_seen x y at =
      let count : length (take Inner plan.pure.loops) ≡ Inner = length-take-le Inner plan.pure.loops (count_few id plan.pure.loops) in
      seen_by (length (take Inner plan.pure.loops)) count
      (consumer_arguments_lie func plan consuming id (take Inner plan.pure.loops) (drop Inner plan.pure.loops) iterations planned.pure
      (sym (take-append-drop Inner plan.pure.loops)) count at.iterations_are) x y at

-- ---- those of a Func at a loop

module _ (plan : FuncPlan) (consuming source_box : SourceBox) (id inside : LoopId) (iterations : Values) (first : comes_first inside id plan.pure.loops ≡ true)
    (lasts : source_box.lasts ≡ lasts_in (extents_of consuming) plan.pure.splits plan.pure.loops) where
  below_from : (from : LoopId) → AreIterationsFrom plan consuming from iterations
      → Below (values_in plan from iterations) (lasts_in (extents_of consuming) plan.pure.splits plan.pure.loops)
  below_from from are =
      let n = inner_count from plan.pure.loops in
      let count : length (take n plan.pure.loops) ≡ n = length-take-le n plan.pure.loops (count_few from plan.pure.loops) in
      subst (λ (k : ℕ). Below (iterations_from k iterations plan.pure.loops) (lasts_in (extents_of consuming) plan.pure.splits plan.pure.loops)) count
      (iterations_below (extents_of consuming) plan.pure.splits iterations (take n plan.pure.loops) (drop n plan.pure.loops) plan.pure.loops
      (sym (take-append-drop n plan.pure.loops)) are)

  loop_seen : (x y : ℕ) → AreIterationsFrom plan consuming inside iterations → LiesIn (values_in plan inside iterations) source_box x y
      → IsSeenIn (values_in plan id iterations) (Some (consumer_loop plan consuming id)) (settled_box (consumer_loop plan consuming id).inner source_box) x y
  loop_seen x y are lies =
      let few : inner_count inside plan.pure.loops ≤ inner_count id plan.pure.loops = count_first inside id plan.pure.loops first in
      let further : AreIterationsFrom plan consuming id iterations =
      iterations_further (counts (extents_of consuming) plan.pure.splits) (inner_count inside plan.pure.loops) (inner_count id plan.pure.loops) plan.pure.loops iterations
      few are in
      let below = below_from id further in
      record {
        produced = subst (λ (l : List ℕ). Below (values_in plan id iterations) l) (sym (lasts_are plan consuming id)) below;
        below = subst (λ (l : List ℕ). Below (values_in plan id iterations) l) (sym lasts) below;
        lies = subst (λ (n : ℕ). LiesIn (values_in plan id iterations) (settled_box n source_box) x y) (sym (inner_is plan consuming id))
            (settled_boxes_hold (inner_count id plan.pure.loops) source_box (values_in plan inside iterations) (values_in plan id iterations)
            (subst (λ (l : List ℕ). Below (values_in plan inside iterations) l) (sym lasts) (below_from inside are))
            (agree iterations plan.pure.loops (inner_count inside plan.pure.loops) (inner_count id plan.pure.loops) few) x y lies);
      }

-- ---- all of them

pub arguments_lie_in_views : ArgumentsLieInViews
arguments_lie_in_views pipeline schedule boxes accepted is place sought at there reached placed func plan consuming func_is plan_is consuming_is reader its own
    its_there its_reached own_is within iterations x y may_be =
    subst (λ (h : Option ConsumerLoop). IsSeenIn (values_in plan at.inside iterations) h (view_of (slice_get schedule.funcs reader) (slice_get schedule.standings
    reader) own h) x y) (sym produced)
    (by_case (stands pipeline schedule.funcs schedule.standings at reader within its its_there))
  where
    produced : consumer_in schedule boxes.funcs sought.place ≡ Some (consumer_loop plan consuming at.inside)
    produced = consumer_is schedule boxes.funcs sought.place at at.func plan consuming placed refl plan_is consuming_is

    planned : IsPlan func plan
    planned = pair_at pipeline.funcs schedule.funcs accepted.plans at.func func plan func_is plan_is

    consumer_there : IsRootReached schedule.standings at.func
    consumer_there = numbered_at (HasConsumerAtRoot schedule.standings) 0 schedule.standings accepted.consumers_at_root place sought there reached at placed

    by_case : Stands schedule.funcs at reader its.place
        → IsSeenIn (values_in plan at.inside iterations) (Some (consumer_loop plan consuming at.inside)) (view_of (slice_get schedule.funcs reader)
        (slice_get schedule.standings reader) own (Some (consumer_loop plan consuming at.inside))) x y
    by_case (IsTheConsumer e) =
        let root : its.place ≡ places.Root =
        ap (λ (s : FuncPlacement). s.place) (same its consumer_there.own (sym its_there ∙ ap (λ (n : ℕ). slice_get schedule.standings n) e
        ∙ consumer_there.there.standing)) ∙ consumer_there.root in
        let own_same : own ≡ consuming = got_box (sym own_is ∙ ap (λ (n : ℕ). slice_get boxes.funcs n) e ∙ consuming_is) in
        let view_is : view_of (slice_get schedule.funcs reader) (slice_get schedule.standings reader) own (Some (consumer_loop plan consuming at.inside))
        ≡ consumer_view plan.pure consuming (consumer_loop plan consuming at.inside) =
        ap (λ (p : Option FuncPlan). view_of p (slice_get schedule.standings reader) own (Some (consumer_loop plan consuming at.inside)))
        (ap (λ (n : ℕ). slice_get schedule.funcs n) e ∙ plan_is)
        ∙ ap (λ (s : Option FuncPlacement). view_of (Some plan) s own (Some (consumer_loop plan consuming at.inside))) its_there
        ∙ ap (λ (o : SourceBox). view_of (Some plan) (Some its) o (Some (consumer_loop plan consuming at.inside))) own_same
        ∙ root_view plan its consuming (consumer_loop plan consuming at.inside) root in
        subst (λ (v : SourceBox). IsSeenIn (values_in plan at.inside iterations) (Some (consumer_loop plan consuming at.inside)) v x y) (sym view_is)
        (root_seen func plan consuming planned at.inside iterations x y (subst (λ (p : ComputeLevel). MayBeArguments func plan consuming at.inside iterations p own x y) root
        may_be))
      where
        got_box : Some (Some own) ≡ Some (Some consuming) → own ≡ consuming
        got_box e = cc
    by_case (IsInside inner inner_is its_within) =
        let parts = and_parts (inner.func == at.func) (comes_first inner.inside at.inside (pure_loops_of (slice_get schedule.funcs inner.func))) its_within in
        let same_func : inner.func ≡ at.func = eqb-true inner.func at.func parts.0 in
        let first : comes_first inner.inside at.inside plan.pure.loops ≡ true =
        ap (λ (p : Option FuncPlan). comes_first inner.inside at.inside (pure_loops_of p)) (sym (ap (λ (n : ℕ). slice_get schedule.funcs n) same_func
        ∙ plan_is)) ∙ parts.1 in
        let later : reader < inner.func = omega (
          arith,
          (numbered_at (HasConsumer pipeline schedule.funcs) 0 schedule.standings accepted.consumers reader its
              its_there inner inner_is).later,
        ) in
        let computed : IsComputed reader its.place = subst (λ (p : ComputeLevel). IsComputed reader p) (sym inner_is) later in
        let boxed : IsProduced (consumer_in schedule boxes.funcs its.place) own = boxes_are_produced pipeline schedule boxes is reader its its_there its_reached
        computed own own_is in
        let lasts : own.lasts ≡ lasts_in (extents_of consuming) plan.pure.splits plan.pure.loops =
        boxed.lasts ∙ ap lasts_of (consumer_is schedule boxes.funcs its.place inner at.func plan consuming inner_is same_func plan_is consuming_is)
        ∙ lasts_are plan consuming inner.inside in
        let found : AreIterationsFrom plan consuming inner.inside iterations × LiesIn (values_in plan inner.inside iterations) own x y =
        subst (λ (p : ComputeLevel). MayBeArguments func plan consuming at.inside iterations p own x y) inner_is may_be in
        let view_is : view_of (slice_get schedule.funcs reader) (slice_get schedule.standings reader) own (Some (consumer_loop plan consuming at.inside))
        ≡ settled_box (consumer_loop plan consuming at.inside).inner own =
        ap (λ (s : Option FuncPlacement). view_of (slice_get schedule.funcs reader) s own (Some (consumer_loop plan consuming at.inside))) its_there
        ∙ loop_view (slice_get schedule.funcs reader) its inner own (consumer_loop plan consuming at.inside) inner_is in
        subst (λ (v : SourceBox). IsSeenIn (values_in plan at.inside iterations) (Some (consumer_loop plan consuming at.inside)) v x y) (sym view_is)
        (loop_seen plan consuming own at.inside inner.inside iterations first lasts x y found.0 found.1)
    by_case (IsInlined inlined) = absurd (subst (λ (p : ComputeLevel). MayBeArguments func plan consuming at.inside iterations p own x y) inlined may_be)
