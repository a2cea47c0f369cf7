-- What is known of a Func that has a box, and of the box of an input.
use Rattle.std.proofs.Common.{◌≡◌, ℕ, zero, suc, ◌+◌, ◌-◌, ◌^◌, ◌<◌, Bool, true, false, cond, List, [], ◌∷◌, Option, Some, None, refl, sym, ap, ◌∙◌, subst}
use Rattle.std.proofs.Common.{arith}
use Rattle.std.specs.Prelude.{◌&&◌, nat_le, nat_lt, not, slice_get, Result, Ok, Err}
use Rattle.std.proofs.lemmas.Bool.{and_parts, leb-true, ltb-true}
use Rattle.halide_pipeline.specs.declared.definitions.Func.{Func}
use Rattle.halide_pipeline.specs.declared.definitions.Input.{Input}
use Rattle.halide_pipeline.specs.declared.expressions.Source.TheVariants as sources
use Rattle.halide_pipeline.specs.Pipelines.{Pipeline}
use Rattle.schedule.specs.declared.plans.FuncPlan.{FuncPlan}
use Rattle.schedule.specs.declared.schedules.Schedule.{Schedule}
use Rattle.schedule.specs.declared.placements.ComputeLevel.{ComputeLevel}
use Rattle.schedule.specs.declared.placements.ComputeLevel.TheVariants as places
use Rattle.schedule.specs.declared.placements.FuncPlacement.{FuncPlacement}
use Rattle.schedule.specs.Accepted.{IsAccepted, IsProduced}
use Rattle.schedule.specs.Uses.{IsReached}
use Rattle.schedule.proofs.Uses.{numbered_at}
use Rattle.schedule_loops.specs.Visits.{shifts_fit}
use Rattle.bounds_ranges.specs.declared.ranges.Range.{Range}
use Rattle.bounds_ranges.specs.Laws.{Below, Lies}
use Rattle.bounds_ranges.specs.Ranges.{widened}
use Rattle.bounds_ranges.specs.Numbers.{origin}
use Rattle.bounds_ranges.proofs.Lying.{widened_stands}
use Rattle.bounds_weights.specs.Weight.{flags_of}
use Rattle.bounds.specs.declared.boxes.SourceBox.{SourceBox}
use Rattle.bounds.specs.declared.faults.BoundsFault.{BoundsFault}
use Rattle.bounds.specs.declared.faults.BoundsFault.TheVariants as faults
use Rattle.bounds.specs.declared.verdict.Boxes.{Boxes}
use Rattle.bounds.specs.Boxes.{lasts_of, are_near, is_near, stays, box_of}
use Rattle.bounds.specs.Inference.{read_from, own_updates, wanted, placed_box, func_box, with_func, boxes_from, inputs_from}
use Rattle.bounds.specs.Verdict.{inputs_hold, input_holds, is_within, shifts_hold, have_few_points, sized, boxes_of, judged, with_inputs, with_funcs, inferred}
use Rattle.bounds_laws.specs.Laws.{LiesIn, IsNear, IsComputed, consumer_in}
use Rattle.bounds.specs.Extents.{extents_of}
use Rattle.bounds_laws.proofs.Found.{are_found, in_front_is, got}
use Rattle.bounds_laws.proofs.FoundFuncs.{IsAt, boxes_at, sought_is}

-- ---- near

front_stays : (test : Bool) (source_box : Option SourceBox) (behind later_boxes : List (Option SourceBox)) → cond test (Some (source_box ∷ behind)) None ≡ Some later_boxes → test ≡ true
front_stays true source_box behind later_boxes e = refl
front_stays false source_box behind later_boxes e = absurd cc

module _ (pipeline : Pipeline) (schedule : Schedule) (flags : List Bool) where
  near_step : (at : ℕ) (func : Func) (others : List Func) (rest : Option (List (Option SourceBox))) (later_boxes : List (Option SourceBox))
      → ((behind : List (Option SourceBox)) → rest ≡ Some behind → (before : ℕ) (source_box : SourceBox) → slice_get behind before ≡ Some (Some source_box)
      → is_near source_box ≡ true)
      → with_func pipeline schedule flags at func rest ≡ Some later_boxes → (before : ℕ) (source_box : SourceBox) → slice_get later_boxes before ≡ Some (Some source_box)
      → is_near source_box ≡ true
  near_step at func others None later_boxes next e before source_box there = absurd cc
  near_step at func others (Some behind) later_boxes next e before source_box there =
      by_place before (ap (λ (l : List (Option SourceBox)). slice_get l before) (in_front_is (func_box pipeline schedule flags at func behind
      (slice_get schedule.standings at)) behind later_boxes e) ∙ there)
    where
      by_place : (k : ℕ) → slice_get (func_box pipeline schedule flags at func behind (slice_get schedule.standings at) ∷ behind) k ≡ Some (Some source_box)
          → is_near source_box ≡ true
      by_place zero is =
          ap stays (sym (got (func_box pipeline schedule flags at func behind (slice_get schedule.standings at)) (Some source_box) is))
          ∙ front_stays (stays (func_box pipeline schedule flags at func behind (slice_get schedule.standings at))) (func_box pipeline schedule flags at func
          behind (slice_get schedule.standings at)) behind later_boxes e
      by_place (suc k) is = next behind refl k source_box is

  nothing_there : (later_boxes : List (Option SourceBox)) → [] ≡ later_boxes → (before : ℕ) (source_box : Option SourceBox) → slice_get later_boxes before ≡ Some source_box → ⊥
  nothing_there [] e zero source_box there = cc
  nothing_there [] e (suc before) source_box there = cc
  nothing_there (other ∷ later_boxes) e before source_box there = cc

  near_in : (at : ℕ) (funcs : List Func) (later_boxes : List (Option SourceBox)) → boxes_from pipeline schedule flags at funcs ≡ Some later_boxes
      → (before : ℕ) (source_box : SourceBox) → slice_get later_boxes before ≡ Some (Some source_box)
      → is_near source_box ≡ true
  near_in at [] later_boxes e before source_box there = absurd
      (nothing_there later_boxes (got [] later_boxes e) before (Some source_box) there)
  near_in at (func ∷ others) later_boxes e before source_box there =
      near_step at func others (boxes_from pipeline schedule flags (at + 1) others) later_boxes (λ behind is. near_in (at + 1) others behind is) e before source_box there

-- ---- the loops of a box

pub lasts_by : (lasts : List ℕ) (x y : Option Range) (source_box : SourceBox) → box_of lasts x y ≡ Some source_box
    → source_box.lasts ≡ lasts
lasts_by lasts None y source_box e = absurd cc
lasts_by lasts (Some x) None source_box e = absurd cc
lasts_by lasts (Some x) (Some y) source_box e = let same = got (record { x = x; y = y; lasts = lasts }) source_box e in sym (ap (λ (b : SourceBox). b.lasts) same)

-- ---- a Func that has a box

pub record HasBox (pipeline : Pipeline) (schedule : Schedule) (boxes : Boxes) (func_index : ℕ) (source_box : SourceBox) : Type 0 where
  pub func : Func
  pub func_is : slice_get pipeline.funcs func_index ≡ Some func
  pub standing : FuncPlacement
  pub there : IsReached schedule.standings func_index standing
  pub computed : IsComputed func_index standing.place
  pub near : is_near source_box ≡ true
  pub lasts : source_box.lasts ≡ lasts_of (consumer_in schedule boxes.funcs standing.place)

module _ (pipeline : Pipeline) (schedule : Schedule) (boxes : Boxes) (accepted : IsAccepted pipeline schedule) (is : inferred pipeline schedule ≡ Ok boxes)
  where
    flags : List Bool
    flags = flags_of schedule.standings

    produced : (func_index : ℕ) (own : FuncPlacement) → slice_get schedule.standings func_index ≡ Some own → IsProduced pipeline schedule.funcs func_index own
    produced func_index own found =
        let here : 0 + func_index ≡ func_index = omega arith in
        subst (λ (n : ℕ). IsProduced pipeline schedule.funcs n own) here (numbered_at (IsProduced pipeline schedule.funcs) 0 schedule.standings
        accepted.consumers
        func_index own found)

    placed_so : (func_index : ℕ) (own : FuncPlacement) → slice_get schedule.standings func_index ≡ Some own
        → (func : Func) (later_boxes : List (Option SourceBox)) (box : SourceBox)
        → (where_ : ComputeLevel) → own.place ≡ where_ → Some box ≡ placed_box pipeline schedule flags func_index func later_boxes where_ → IsComputed func_index where_
    placed_so func_index own found func later_boxes box places.Root e some = tt
    placed_so func_index own found func later_boxes box (places.At consumer) e some =
        (produced func_index own found consumer e).later
    placed_so func_index own found func later_boxes box places.Inlined e some = absurd cc
    placed_so func_index own found func later_boxes box places.Nowhere e some = absurd cc

    module _ (func_index : ℕ) (own : SourceBox) (at : IsAt pipeline schedule flags 0 func_index pipeline.funcs boxes.funcs (Some own)) (near : is_near own ≡ true) where
      by_reached : (placement : FuncPlacement) → slice_get schedule.standings func_index ≡ Some placement → (reached : Bool) → placement.is_reached ≡ reached
          → Some own ≡ cond reached (placed_box pipeline schedule flags func_index at.func at.behind placement.place) None → HasBox pipeline schedule boxes func_index own
      by_reached placement found false r e = absurd cc
      by_reached placement found true r e =
          let computed = placed_so func_index placement found at.func at.behind own placement.place refl e in
          let consumer = consumer_in schedule boxes.funcs placement.place in
          let spread = read_from pipeline schedule flags (func_index + 1) consumer (sources.Func func_index) at.behind (own_updates pipeline flags func_index consumer
          (wanted pipeline.output func_index consumer) at.func.updates) in
          record {
            func = at.func;
            func_is = at.func_is;
            standing = placement;
            there = record { standing = found; reached = r };
            computed = computed;
            near = near;
            lasts = lasts_by (lasts_of consumer) spread.x spread.y own
                (sym (e ∙ sym (ap (λ (s : Option FuncPlacement). func_box pipeline schedule flags func_index at.func at.behind s) found
                ∙ ap (λ (test : Bool). cond test (placed_box pipeline schedule flags func_index at.func at.behind placement.place) None) r)
                ∙ sought_is pipeline schedule flags boxes.funcs func_index at.func at.behind at.later placement found r computed));
          }

      by_standing : (placement : Option FuncPlacement) → slice_get schedule.standings func_index ≡ placement
          → Some own ≡ func_box pipeline schedule flags func_index at.func at.behind placement → HasBox pipeline schedule boxes func_index own
      by_standing None found e = absurd cc
      by_standing (Some placement) found e = by_reached placement found placement.is_reached refl e

    pub has_box : (func_index : ℕ) (own : SourceBox) → slice_get boxes.funcs func_index ≡ Some (Some own) → HasBox pipeline schedule boxes func_index own
    unfolding flags
    has_box func_index own there =
        let found = are_found pipeline schedule boxes is in
        let at = boxes_at pipeline schedule flags 0 pipeline.funcs boxes.funcs found.funcs func_index (Some own) there
        in
        let near = near_in pipeline schedule flags 0 pipeline.funcs boxes.funcs found.funcs func_index own there in
        let here : 0 + func_index ≡ func_index = omega arith in
        by_standing func_index own at near (slice_get schedule.standings func_index) refl
        (at.own_is ∙ ap (λ (n : ℕ). func_box pipeline schedule flags n at.func at.behind (slice_get schedule.standings n)) here)

-- ---- points of a box are near

near_one : (lasts values : List ℕ) (range : Range) (x : ℕ) → Below values lasts → are_near (widened lasts range) ≡ true → Lies lasts values range x → IsNear x
near_one lasts values range x below near l =
    let s = widened_stands lasts values below range x l in
    let k = and_parts (nat_le (origin - 2 ^ 24) (widened lasts range).low) (nat_le (widened lasts range).high (origin + 2 ^ 24)) near in
    record {
      low = omega (arith, s.low, leb-true (origin - 2 ^ 24) (widened lasts range).low k.0);
      high = omega (arith, s.high, leb-true (widened lasts range).high (origin + 2 ^ 24) k.1);
    }

pub near_points : (source_box : SourceBox) (values : List ℕ) (x y : ℕ) → Below values source_box.lasts → is_near source_box ≡ true → LiesIn values source_box x y → IsNear x × IsNear y
near_points source_box values x y below near l =
    let k = and_parts (are_near (widened source_box.lasts source_box.x))
    (are_near (widened source_box.lasts source_box.y)) near in (
      near_one source_box.lasts values source_box.x x below k.0 l.first,
      near_one source_box.lasts values source_box.y y
          below k.1 l.second,
    )

-- ---- what is judged

passed_test : (test : Bool) (wrong : BoundsFault) (next : Result Boxes BoundsFault) (boxes : Boxes) → cond (not test) (Err wrong) next ≡ Ok boxes
    → (test ≡ true) × (next ≡ Ok boxes)
passed_test true wrong next boxes e = (refl, e)
passed_test false wrong next boxes e = absurd cc

kept_is : (test : Bool) (own_boxes boxes : Boxes) (wrong : BoundsFault) → cond test (Ok own_boxes) (Err wrong) ≡ Ok boxes → (test ≡ true) × (own_boxes ≡ boxes)
kept_is true own_boxes boxes wrong e = (refl, cc)
kept_is false own_boxes boxes wrong e = absurd cc

pub record IsJudged (pipeline : Pipeline) (schedule : Schedule) (boxes : Boxes) : Type 0 where
  pub inputs : inputs_hold pipeline.inputs boxes.inputs ≡ true
  pub shifts : shifts_hold schedule.funcs boxes.funcs ≡ true
  pub few : (have_few_points boxes.inputs && (have_few_points boxes.funcs && nat_le boxes.layout.size 33554432)) ≡ true

module _ (pipeline : Pipeline) (schedule : Schedule) (boxes : Boxes) where
  judged_so : (funcs inputs : List (Option SourceBox)) → judged pipeline schedule funcs inputs ≡ Ok boxes → IsJudged pipeline schedule boxes
  judged_so funcs inputs e =
      let a = passed_test (inputs_hold pipeline.inputs inputs) faults.InputExtents (cond (not (shifts_hold schedule.funcs funcs)) (Err faults.ShortShift)
      (sized (boxes_of pipeline schedule funcs inputs))) boxes e in
      let b = passed_test (shifts_hold schedule.funcs funcs) faults.ShortShift (sized (boxes_of pipeline schedule funcs inputs)) boxes a.1 in
      let own = boxes_of pipeline schedule funcs inputs in
      let c = kept_is (have_few_points own.inputs && (have_few_points own.funcs && nat_le own.layout.size 33554432)) own boxes faults.TooLarge b.1 in
      record {
        inputs = ap (λ (l : Boxes). inputs_hold pipeline.inputs l.inputs) (sym c.1) ∙ a.0;
        shifts = ap (λ (l : Boxes). shifts_hold schedule.funcs l.funcs) (sym c.1) ∙ b.0;
        few = ap (λ (l : Boxes). have_few_points l.inputs && (have_few_points l.funcs && nat_le l.layout.size 33554432)) (sym c.1) ∙ c.0;
      }

  inputs_so : (funcs : List (Option SourceBox)) (inputs : Option (List (Option SourceBox))) → with_inputs pipeline schedule funcs inputs ≡ Ok boxes
      → IsJudged pipeline schedule boxes
  inputs_so funcs None e = absurd cc
  inputs_so funcs (Some inputs) e = judged_so funcs inputs e

  funcs_so : (funcs : Option (List (Option SourceBox))) → with_funcs pipeline schedule funcs ≡ Ok boxes → IsJudged pipeline schedule boxes
  funcs_so None e = absurd cc
  funcs_so (Some funcs) e = inputs_so funcs (inputs_from pipeline schedule (flags_of schedule.standings) funcs 0 pipeline.inputs) e

  pub is_judged : inferred pipeline schedule ≡ Ok boxes → IsJudged pipeline schedule boxes
  unfolding inferred
  is_judged e = funcs_so (boxes_from pipeline schedule (flags_of schedule.standings) 0 pipeline.funcs) e

-- ---- points of an input's box lie within its extents

pub input_at : (inputs : List Input) (boxes : List (Option SourceBox)) (func_index : ℕ) (input : Input) (source_box : SourceBox) → inputs_hold inputs boxes ≡ true
    → slice_get inputs func_index ≡ Some input → slice_get boxes func_index ≡ Some (Some source_box)
    → input_holds input source_box ≡ true
input_at [] boxes func_index input source_box held i b = absurd cc
input_at (first ∷ inputs) [] func_index input source_box held i b = absurd cc
input_at (first ∷ inputs) (None ∷ boxes) zero input source_box held i b = absurd cc
input_at (first ∷ inputs) (None ∷ boxes) (suc func_index) input source_box held i b = input_at inputs boxes func_index
    input source_box held i b
input_at (first ∷ inputs) (Some other ∷ boxes) zero input source_box held i b =
    let same_input = got first input i in
    let same_box = got other source_box (got (Some other) (Some source_box) b) in
    ap (λ (n : Input). input_holds n source_box) (sym same_input) ∙ ap (λ (c : SourceBox). input_holds first c)
    (sym same_box)
    ∙ (and_parts (input_holds first other) (inputs_hold inputs boxes) held).0
input_at (first ∷ inputs) (Some other ∷ boxes) (suc func_index) input source_box held i b = input_at inputs boxes func_index input source_box (and_parts (input_holds first other)
    (inputs_hold inputs boxes) held).1 i b

one_within : (lasts values : List ℕ) (range : Range) (x extent : ℕ) → Below values lasts → is_within lasts range extent ≡ true → Lies lasts values range x
    → x < extent
one_within lasts values range x extent below within l =
    let s = widened_stands lasts values below range x l in
    let k = and_parts (nat_le origin (widened lasts range).low) (nat_lt (widened lasts range).high (origin + extent)) within in
    omega (arith, s.low, s.high, leb-true origin (widened lasts range).low k.0, ltb-true (widened lasts range).high (origin + extent) k.1, l.word)

pub points_within : (input : Input) (source_box : SourceBox) (values : List ℕ) (x y : ℕ) → Below values source_box.lasts → input_holds input source_box ≡ true
    → LiesIn values source_box x y → (x < input.width) × (y < input.height)
points_within input source_box values x y below held l =
    let k = and_parts (is_within source_box.lasts source_box.x input.width)
    (is_within source_box.lasts source_box.y input.height) held in
    (one_within source_box.lasts values source_box.x x input.width below k.0 l.first, one_within source_box.lasts values source_box.y y input.height below k.1 l.second)

-- ---- shifts

pub shifts_at : (plans : List FuncPlan) (boxes : List (Option SourceBox)) (func_index : ℕ) (plan : FuncPlan) (source_box : SourceBox) → shifts_hold plans boxes ≡ true
    → slice_get plans func_index ≡ Some plan → slice_get boxes func_index ≡ Some (Some source_box) → shifts_fit (extents_of source_box) plan.pure.splits ≡ true
shifts_at [] boxes func_index plan source_box held p b = absurd cc
shifts_at (first ∷ plans) [] func_index plan source_box held p b = absurd cc
shifts_at (first ∷ plans) (None ∷ boxes) zero plan source_box held p b = absurd cc
shifts_at (first ∷ plans) (None ∷ boxes) (suc func_index) plan source_box held p b = shifts_at plans boxes func_index
    plan source_box held p b
shifts_at (first ∷ plans) (Some other ∷ boxes) zero plan source_box held p b =
    let same_plan = got first plan p in
    let same_box = got other source_box (got (Some other) (Some source_box) b) in
    ap (λ (q : FuncPlan). shifts_fit (extents_of source_box) q.pure.splits) (sym same_plan) ∙ ap (λ (c : SourceBox). shifts_fit (extents_of c) first.pure.splits)
    (sym same_box)
    ∙ (and_parts (shifts_fit (extents_of other) first.pure.splits) (shifts_hold plans boxes) held).0
shifts_at (first ∷ plans) (Some other ∷ boxes) (suc func_index) plan source_box held p b =
    shifts_at plans boxes func_index plan source_box (and_parts (shifts_fit (extents_of other) first.pure.splits) (shifts_hold plans boxes) held).1 p b
