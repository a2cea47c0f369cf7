-- Wherever a reader's arguments are in its box, loops take them to the view with which a source is asked.
use Rattle.std.proofs.Common.{◌≡◌, ℕ, zero, suc, ◌+◌, ◌-◌, ◌^◌, ◌<◌, ◌≤◌, Bool, true, false, cond, List, [], ◌∷◌, ◌++◌, length, take, drop, Option, None, Some}
use Rattle.std.proofs.Common.{refl, sym, ap, subst, ◌∙◌, arith, true≢false}
use Rattle.std.specs.Prelude.{◌==◌, nat_lt, slice_get, Ok}
use Rattle.std.proofs.lemmas.Bool.{and_parts, and_from, lt-ltb, eqb-true}
use Rattle.halide_pipeline.specs.declared.definitions.Func.{Func}
use Rattle.halide_pipeline.specs.declared.expressions.Variable.TheVariants as variables
use Rattle.halide_pipeline.specs.WellFormed.{dimensions, IsWellFormed}
use Rattle.halide_pipeline.specs.Pipelines.{Pipeline}
use Rattle.schedule_lines.specs.declared.stages.Loop.{Loop}
use Rattle.schedule_lines.specs.declared.stages.LoopId.{LoopId}
use Rattle.schedule_lines.specs.declared.stages.LoopId.TheVariants as ids
use Rattle.schedule_lines.specs.declared.stages.Stage.{Stage}
use Rattle.schedule_lines.specs.Directives.{same_id}
use Rattle.schedule.specs.declared.plans.FuncPlan.{FuncPlan}
use Rattle.schedule.specs.declared.schedules.Schedule.{Schedule}
use Rattle.schedule.specs.declared.placements.LoopPosition.{LoopPosition}
use Rattle.schedule.specs.declared.placements.ComputeLevel.{ComputeLevel}
use Rattle.schedule.specs.declared.placements.ComputeLevel.TheVariants as places
use Rattle.schedule.specs.declared.placements.FuncPlacement.{FuncPlacement}
use Rattle.schedule.specs.Accepted.{IsAccepted, IsPlan, IsLegal, IsProduced}
use Rattle.schedule.specs.Placements.{comes_first, pure_loops_of}
use Rattle.schedule.specs.Uses.{IsRootReached, HasConsumerAtRoot}
use Rattle.schedule.proofs.Uses.{numbered_at}
use Rattle.schedule_loops.specs.declared.extents.Extents.{Extents}
use Rattle.schedule_loops.specs.Visits.{Values, shifts_fit, Visit}
use Rattle.schedule_loops.specs.Laws.{IsMadeIn}
use Rattle.schedule_loops.specs.Reach.{wholes}
use Rattle.schedule_loops.specs.Stages.{IsStageOf, first_loops, has_variable, extent_in, is_slice_of}
use Rattle.schedule_loops.proofs.AcceptedStages.{accepted as accepted_stages, pair_at}
use Rattle.schedule_loops.proofs.Covering.{visited}
use Rattle.schedule_loops.proofs.IterationsFound.{of_all, visits_are_made}
use Rattle.bounds_ranges.specs.declared.bases.Multiple.{Multiple}
use Rattle.bounds_ranges.specs.declared.ranges.Range.{Range}
use Rattle.bounds_ranges.specs.Ranges.{more_sum, less_sum}
use Rattle.bounds_ranges.specs.Laws.{Below, Lies}
use Rattle.bounds_ranges.specs.Numbers.{origin, spot}
use Rattle.bounds.specs.declared.boxes.ConsumerLoop.{ConsumerLoop}
use Rattle.bounds.specs.declared.boxes.SourceBox.{SourceBox}
use Rattle.bounds.specs.declared.verdict.Boxes.{Boxes}
use Rattle.bounds.specs.Boxes.{no_loops, lasts_of}
use Rattle.bounds.specs.Extents.{box_in, extent, extents_of}
use Rattle.bounds_laws.specs.Callers.{IsReadWithin, StandsAt, HasLoop, IsWithin}
use Rattle.bounds_laws.specs.ConsumerLaws.{iterations_from, gone, IsGone, IsTakenTo, AgreeFrom}
use Rattle.bounds.specs.Inference.{consumer_of}
use Rattle.bounds_laws.specs.Laws.{LiesIn, values_for, consumer_in, IsComputed}
use Rattle.bounds.specs.Verdict.{inferred}
use Rattle.bounds.specs.Views.{inner_count, consumer_loop_in, consumer_loop, consumer_view_in, consumer_view, settled_box, view_of}
use Rattle.bounds_laws.proofs.BoxFacts.{HasBox, has_box, is_judged, shifts_at}
use Rattle.bounds_laws.proofs.Flat.{one_row_boxes}
use Rattle.bounds_laws.proofs.Found.{no_below}
use Rattle.bounds_laws.proofs.ConsumerArguments.{consumer_arguments_lie}
use Rattle.bounds_laws.proofs.Settled.{settled_boxes_hold}
use Rattle.bounds_laws.proofs.StandingWithin.{one_standing}

-- a reader's point lies in the view with which a source is asked, while the loops of the source's consumer have these values
pub record Sees (pipeline : Pipeline) (schedule : Schedule) (boxes : Boxes) (reader : ℕ) (source_box : SourceBox) (x y : ℕ) (level : ComputeLevel) : Type 0 where
  pub consumer : Option ConsumerLoop
  pub consumer_is : consumer_in schedule boxes.funcs level ≡ consumer
  pub view : SourceBox
  pub view_is : view_of (slice_get schedule.funcs reader) (slice_get schedule.standings reader) source_box consumer ≡
      view
  pub values : List ℕ
  pub below_view : Below values view.lasts
  pub below_consumer : Below (values_for consumer values) (lasts_of consumer)
  pub lies : LiesIn values view x y

-- ---- lists

parted : {A : Type 0} (n : ℕ) (xs : List A) → xs ≡ take n xs ++ drop n xs
parted zero xs = refl
parted (suc n) [] = refl
parted {A} (suc n) (x ∷ xs) = ap (λ (ys : List A). x ∷ ys) (parted n xs)

taken_length : {A : Type 0} (n : ℕ) (xs : List A) → n ≤ length xs → length (take n xs) ≡ n
taken_length zero xs few = refl
taken_length (suc n) [] few = absurd (omega (arith, few))
taken_length (suc n) (x ∷ xs) few = ap suc (taken_length n xs (omega (arith, few)))

count_few : (id : LoopId) (loops : List Loop) → inner_count id loops ≤ length loops
count_few id [] = omega arith
count_few id (first ∷ outside) = by_test (same_id first.id id) (count_few id outside)
  where
    by_test : (test : Bool) → inner_count id outside ≤ length outside → cond test 0 (suc (inner_count id outside)) ≤ suc (length outside)
    by_test true few = omega arith
    by_test false few = omega (arith, few)

agree_self : (inner : ℕ) (values : List ℕ) → AgreeFrom inner values values
agree_self zero [] = tt
agree_self (suc inner) [] = tt
agree_self zero (v ∷ values) = (refl, agree_self zero values)
agree_self (suc inner) (v ∷ values) = agree_self inner values

-- ---- a box with no loops

pub zero_values : (values : List ℕ) → Below values no_loops → values ≡ no_loops
zero_values [] below = absurd below
zero_values (a ∷ []) below = absurd below.1
zero_values (a ∷ b ∷ []) below = absurd below.1.1
zero_values (a ∷ b ∷ c ∷ []) below = absurd below.1.1.1
zero_values (a ∷ b ∷ c ∷ d ∷ []) below = absurd below.1.1.1.1
zero_values (a ∷ b ∷ c ∷ d ∷ e ∷ []) below =
    let none : (n : ℕ) → n ≤ 0 → n ≡ 0 = λ n l. omega (arith, l) in
    rw (none a below.0, none b below.1.0, none c below.1.1.0, none d below.1.1.1.0, none e below.1.1.1.1.0) refl
zero_values (a ∷ b ∷ c ∷ d ∷ e ∷ f ∷ values) below = absurd below.1.1.1.1.1

more_none : (base : List Multiple) → more_sum base no_loops ≡ 0
more_none [] = refl
more_none (a ∷ []) = omega arith
more_none (a ∷ b ∷ []) = omega arith
more_none (a ∷ b ∷ c ∷ []) = omega arith
more_none (a ∷ b ∷ c ∷ d ∷ []) = omega arith
more_none (a ∷ b ∷ c ∷ d ∷ e ∷ []) = omega arith
more_none (a ∷ b ∷ c ∷ d ∷ e ∷ f ∷ base) = omega arith

less_none : (base : List Multiple) → less_sum base no_loops ≡ 0
less_none [] = refl
less_none (a ∷ []) = omega arith
less_none (a ∷ b ∷ []) = omega arith
less_none (a ∷ b ∷ c ∷ []) = omega arith
less_none (a ∷ b ∷ c ∷ d ∷ []) = omega arith
less_none (a ∷ b ∷ c ∷ d ∷ e ∷ []) = omega arith
less_none (a ∷ b ∷ c ∷ d ∷ e ∷ f ∷ base) = omega arith

-- between the ends of a range, as a signed number
record Stands (range : Range) (x : ℕ) : Type 0 where
  word : x < 2 ^ 32
  low : range.low ≤ spot x
  high : spot x ≤ range.high

stands : (range : Range) (values : List ℕ) (x : ℕ) → Below values no_loops → Lies no_loops values range x → Stands range x
stands range values x below l =
    let z = zero_values values below in
    let m : more_sum range.base values ≡ 0 = ap (more_sum range.base) z ∙ more_none range.base in
    let n : less_sum range.base values ≡ 0 = ap (less_sum range.base) z ∙ less_none range.base in
    record { word = l.word; low = omega (arith, l.low, m, n); high = omega (arith, l.high, m, n) }

-- ---- arguments of a Func

has_first : (func : Func) → has_variable variables.FirstArgument (first_loops func None) ≡ true
has_first func = by_second func.second_argument refl
  where
    by_second : (second : Option (List ℕ)) → func.second_argument ≡ second → has_variable variables.FirstArgument (first_loops func None) ≡ true
    by_second None e = rw e refl
    by_second (Some name) e = rw e refl

one_without : (func : Func) → has_variable variables.SecondArgument (first_loops func None) ≡ false → dimensions func ≡ 1
one_without func = by_second func.second_argument refl
  where
    by_second : (second : Option (List ℕ)) → func.second_argument ≡ second → has_variable variables.SecondArgument (first_loops func None) ≡ false
        → dimensions func ≡ 1
    by_second None e none = rw e refl
    by_second (Some name) e none = absurd (true≢false (sym (rw e refl) ∙ none))

module _ (pipeline : Pipeline) (schedule : Schedule) (boxes : Boxes) (rules : IsWellFormed pipeline) (accepted : IsAccepted pipeline schedule)
    (is : inferred pipeline schedule ≡ Ok boxes) where
  -- ---- the reader has the loop

  module _ (reader : ℕ) (source_box : SourceBox) (own_is : slice_get boxes.funcs reader ≡ Some (Some source_box)) (box : HasBox pipeline schedule boxes reader source_box)
      (root : box.standing.place ≡ places.Root) (plan : FuncPlan) (plan_is : slice_get schedule.funcs reader ≡ Some plan)
      (id : LoopId) (values : List ℕ) (below : Below values source_box.lasts) (x y : ℕ)
      (lies : LiesIn values source_box x y) where
    func : Func
    func = box.func

    stage : Stage
    stage = plan.pure

    inner : ℕ
    inner = inner_count id stage.loops

    inside : List Loop
    inside = take inner stage.loops

    outside : List Loop
    outside = drop inner stage.loops

    extents : Extents
    extents = extents_of source_box

    no_lasts : source_box.lasts ≡ no_loops
    no_lasts = box.lasts ∙ ap (λ (p : ComputeLevel). lasts_of (consumer_in schedule boxes.funcs p)) root

    below_none : Below values no_loops
    below_none = subst (λ (l : List ℕ). Below values l) no_lasts below

    in_x : Stands source_box.x x
    in_x = stands source_box.x values x below_none (subst (λ (l : List ℕ). Lies l values source_box.x x) no_lasts
        lies.first)

    in_y : Stands source_box.y y
    in_y = stands source_box.y values y below_none (subst (λ (l : List ℕ). Lies l values source_box.y y) no_lasts
        lies.second)

    stage_is : IsStageOf func None stage
    unfolding func stage
    stage_is =
        (accepted_stages box.func plan box.standing (pair_at IsPlan pipeline.funcs schedule.funcs reader box.func plan accepted.plans box.func_is plan_is)
        (pair_at IsLegal schedule.funcs schedule.standings reader plan box.standing accepted.legal plan_is box.there.standing) box.there.reached).0.0

    -- how far the point is from the corner
    far_x : ℕ
    far_x = spot x - source_box.x.low

    far_y : ℕ
    far_y = cond (has_variable variables.SecondArgument (first_loops func None)) (spot y - source_box.y.low) 0

    slice_by : (test : Bool) → has_variable variables.SecondArgument (first_loops func None) ≡ test
        → cond test (spot y - source_box.y.low) 0 < cond test (extent source_box.y) 1
    slice_by true e = omega (arith, in_y.low, in_y.high)
    slice_by false e = omega arith

    is_slice : is_slice_of func None extents far_x far_y ≡ true
    unfolding far_x far_y extents
    is_slice =
        and_from (nat_lt far_x (extent_in func None extents variables.FirstArgument)) (nat_lt far_y (extent_in func None extents variables.SecondArgument))
        (rw (has_first func) (lt-ltb (spot x - source_box.x.low) (extent source_box.x)
        (omega (arith, in_x.low, in_x.high))))
        (lt-ltb far_y (extent_in func None extents variables.SecondArgument) (slice_by (has_variable variables.SecondArgument (first_loops func None)) refl))

    fits : shifts_fit extents stage.splits ≡ true
    unfolding extents stage
    fits = shifts_at schedule.funcs boxes.funcs reader plan source_box (is_judged pipeline schedule boxes is).shifts plan_is own_is

    made : IsMadeIn extents stage inside outside (record { x = far_x; y = far_y; number = 0 })
    unfolding inside outside
    made = visits_are_made extents stage inside outside (parted inner stage.loops) (record { x = far_x; y = far_y; number = 0 }) (visited func extents far_x
        far_y is_slice stage stage_is fits)

    at_first : made.whole (ids.Whole variables.FirstArgument) ≡ far_x
    at_first = ap (λ (v : Visit). v.x) made.visit_is

    at_second : made.whole (ids.Whole variables.SecondArgument) ≡ far_y
    at_second = ap (λ (v : Visit). v.y) made.visit_is

    gone_x : IsGone source_box.x (gone func variables.FirstArgument made.whole) x
    unfolding far_x
    gone_x = record { word = in_x.word; is = rw (has_first func) (omega (arith, at_first, in_x.low)) }

    gone_by : (test : Bool) → has_variable variables.SecondArgument (first_loops func None) ≡ test → far_y ≡ cond test (spot y - source_box.y.low) 0
        → spot y ≡ source_box.y.low + cond test (made.whole (ids.Whole variables.SecondArgument)) 0
    unfolding func
    gone_by true e f = omega (arith, at_second, f, in_y.low)
    gone_by false e f =
        let row = one_row_boxes pipeline schedule boxes rules accepted is reader func source_box box.func_is (one_without func e) own_is in
        let low : source_box.y.low ≡ origin = ap (λ (r : Range). r.low) row in
        let high : source_box.y.high ≡ origin = ap (λ (r : Range). r.high) row in
        omega (arith, low, high, in_y.low, in_y.high)

    gone_y : IsGone source_box.y (gone func variables.SecondArgument made.whole) y
    unfolding far_y
    gone_y = record { word = in_y.word; is = gone_by (has_variable variables.SecondArgument (first_loops func None)) refl refl }

    iterations : List ℕ
    iterations = iterations_from (length inside) made.iterations stage.loops

    taken : Below iterations (consumer_loop plan source_box id).lasts × LiesIn iterations (consumer_view stage source_box (consumer_loop plan source_box id)) x y
    unfolding iterations inside outside inner stage extents
    taken =
        let h = consumer_arguments_lie func plan source_box id inside outside made.iterations stage_is (parted inner stage.loops) (taken_length inner stage.loops
        (count_few id stage.loops)) made.are in (
          h.0,
          of_all (λ (whole : Values). (a b : ℕ) → IsTakenTo func source_box whole a b → LiesIn iterations (consumer_view stage source_box (consumer_loop plan source_box id)) a b)
              (wholes extents stage.splits inside made.iterations) h.1 made.whole made.visited x y
              (record { first = gone_x; second = gone_y }),
        )

    pub consumer_sees : (level : ComputeLevel) → consumer_in schedule boxes.funcs level ≡ Some (consumer_loop plan source_box id)
        → Sees pipeline schedule boxes reader source_box x y level
    unfolding stage consumer_view_in
    consumer_sees level consumer_is = record {
      consumer = Some (consumer_loop plan source_box id);
      consumer_is = consumer_is;
      view = consumer_view plan.pure source_box (consumer_loop plan source_box id);
      view_is = rw (box.there.standing, plan_is) (rw root refl);
      values = iterations;
      below_view = taken.0;
      below_consumer = taken.0;
      lies = taken.1;
    }

  -- ---- whichever it is

  module _ (reader : ℕ) (source_box : SourceBox) (own_is : slice_get boxes.funcs reader ≡ Some (Some source_box)) (values : List ℕ) (below : Below values source_box.lasts) (x y : ℕ)
      (lies : LiesIn values source_box x y) where
    box : HasBox pipeline schedule boxes reader source_box
    box = has_box pipeline schedule boxes accepted is reader source_box own_is

    root_sees : (level : ComputeLevel) → consumer_in schedule boxes.funcs level ≡ None → Sees pipeline schedule boxes reader source_box x y level
    root_sees level none = record {
      consumer = None;
      consumer_is = none;
      view = source_box;
      view_is = refl;
      values = values;
      below_view = below;
      below_consumer = no_below;
      lies = lies;
    }

    here : (n : ℕ) → 0 + n ≡ n
    here n = omega arith

    module _ (func : ℕ) (within : IsReadWithin schedule reader func) (at : LoopPosition) (place_is : within.own.place ≡ places.At at) where
      rooted : IsRootReached schedule.standings at.func
      rooted =
          let h : HasConsumerAtRoot schedule.standings func within.own = subst (λ (n : ℕ). HasConsumerAtRoot schedule.standings n within.own) (here func)
          (numbered_at (HasConsumerAtRoot schedule.standings) 0 schedule.standings accepted.consumers_at_root func within.own within.there.standing) in
          h within.there.reached at place_is

      produced : IsProduced pipeline schedule.funcs func within.own
      produced = subst (λ (n : ℕ). IsProduced pipeline schedule.funcs n within.own) (here func) (numbered_at (IsProduced pipeline schedule.funcs) 0
          schedule.standings accepted.consumers func within.own within.there.standing)

      by_loop : StandsAt schedule at reader → Sees pipeline schedule boxes reader source_box x y (places.At at)
      unfolding box consumer_loop_in
      by_loop (HasLoop same) =
          let consumer = produced at place_is in
          let plan_is : slice_get schedule.funcs reader ≡ Some consumer.plan = ap (λ (n : ℕ). slice_get schedule.funcs n) same ∙ consumer.plan_is in
          let standing_is = one_standing schedule.standings reader box.standing rooted.own box.there.standing (ap (λ (n : ℕ). slice_get schedule.standings n)
          same ∙ rooted.there.standing) in
          let root : box.standing.place ≡ places.Root = ap (λ (s : FuncPlacement). s.place) standing_is ∙ rooted.root in
          let box_is : slice_get boxes.funcs at.func ≡ Some (Some source_box) = ap (λ (n : ℕ). slice_get boxes.funcs n) (sym same) ∙ own_is in
          consumer_sees reader source_box own_is box root consumer.plan plan_is at.inside values below x y lies (places.At at) (rw (consumer.plan_is, box_is) refl)
      by_loop (IsWithin st other there other_place inside) = by_box (slice_get schedule.funcs at.func) refl (box_in (slice_get boxes.funcs at.func)) refl
        where
          same_func : other.func ≡ at.func
          same_func = eqb-true other.func at.func (and_parts (other.func == at.func) (comes_first other.inside at.inside
              (pure_loops_of (slice_get schedule.funcs other.func))) inside).0

          own_place : box.standing.place ≡ places.At other
          own_place = ap (λ (s : FuncPlacement). s.place) (one_standing schedule.standings reader box.standing st box.there.standing there.standing) ∙ other_place

          own_lasts : source_box.lasts ≡ lasts_of (consumer_of other (slice_get schedule.funcs at.func) (box_in (slice_get boxes.funcs at.func)))
          own_lasts =
              box.lasts ∙ ap (λ (p : ComputeLevel). lasts_of (consumer_in schedule boxes.funcs p)) own_place
              ∙ ap (λ (n : ℕ). lasts_of (consumer_of other (slice_get schedule.funcs n) (box_in (slice_get boxes.funcs n)))) same_func

          by_box : (plan : Option FuncPlan) → slice_get schedule.funcs at.func ≡ plan → (consumer_box : Option SourceBox)
              → box_in (slice_get boxes.funcs at.func) ≡ consumer_box
              → Sees pipeline schedule boxes reader source_box x y (places.At at)
          by_box None p consumer_box b = root_sees (places.At at) (rw p refl)
          by_box (Some plan) p None b = root_sees (places.At at) (rw (p, b) refl)
          by_box (Some plan) p (Some consumer_box) b =
              let consumer = consumer_loop plan consumer_box at.inside in
              let lasts_are : source_box.lasts ≡ consumer.lasts = own_lasts ∙ rw (p, b) refl in
              record {
                consumer = Some consumer;
                consumer_is = rw (p, b) refl;
                view = settled_box consumer.inner source_box;
                view_is = rw box.there.standing (rw own_place refl);
                values = values;
                below_view = below;
                below_consumer = subst (λ (l : List ℕ). Below values l) lasts_are below;
                lies = settled_boxes_hold consumer.inner source_box values values below (agree_self consumer.inner values) x y lies;
              }

    pub sees : (func : ℕ) (within : IsReadWithin schedule reader func) → IsComputed func within.own.place
        → Sees pipeline schedule boxes reader source_box x y within.own.place
    sees func within computed = by_place within.own.place refl computed
      where
        by_place : (level : ComputeLevel) → within.own.place ≡ level → IsComputed func level → Sees pipeline schedule boxes reader source_box x y level
        by_place places.Root e c = root_sees places.Root refl
        by_place (places.At at) e c = by_loop func within at e (within.within at e)
        by_place places.Inlined e c = absurd c
        by_place places.Nowhere e c = absurd c
