-- The output's picture lies in the box of its Func, and that in the data.
use Rattle.std.proofs.Common.{◌≡◌, ℕ, zero, suc, ◌+◌, ◌-◌, ◌*◌, ◌%◌, ◌^◌, ◌<◌, ◌≤◌, Bool, true, false, List, [], ◌∷◌, map, Option, Some, None, refl, sym, ap}
use Rattle.std.proofs.Common.{subst, ◌∙◌, arith}
use Rattle.std.specs.Prelude.{◌&&◌, ◌||◌, nat_le, slice_get, Ok}
use Rattle.std.proofs.lemmas.Bool.{and_parts, leb-true}
use Rattle.halide_pipeline.specs.declared.definitions.Func.{Func}
use Rattle.halide_pipeline.specs.declared.definitions.Input.{Input}
use Rattle.halide_pipeline.specs.declared.expressions.Source.{Source}
use Rattle.halide_pipeline.specs.declared.expressions.Source.TheVariants as sources
use Rattle.halide_pipeline.specs.Pipelines.{Pipeline}
use Rattle.halide_pipeline.specs.WellFormed.{IsWellFormed, is_func_of, is_width, is_height}
use Rattle.halide_pipeline.specs.Pixel.{Planes, reads_of, pixels}
use Rattle.schedule.specs.declared.plans.FuncPlan.{FuncPlan}
use Rattle.schedule.specs.declared.schedules.Schedule.{Schedule}
use Rattle.schedule.specs.declared.placements.ComputeLevel.{ComputeLevel}
use Rattle.schedule.specs.declared.placements.ComputeLevel.TheVariants as places
use Rattle.schedule.specs.declared.placements.FuncPlacement.{FuncPlacement}
use Rattle.schedule.specs.Accepted.{IsAccepted, IsPlan}
use Rattle.schedule.specs.Legal.{is_inlined}
use Rattle.schedule.specs.Placements as standing
use Rattle.schedule.specs.Placements.{standings_from}
use Rattle.schedule.proofs.Uses.{IsSome, output_standing, standing_some}
use Rattle.bounds_ranges.specs.Laws.{Lies, AnswerWords}
use Rattle.bounds_ranges.specs.Numbers.{origin}
use Rattle.bounds.specs.declared.boxes.SourceBox.{SourceBox}
use Rattle.bounds.specs.declared.layout.Layout.{Layout}
use Rattle.bounds.specs.declared.verdict.Boxes.{Boxes}
use Rattle.bounds.specs.Boxes.{IsBox, no_loops, lasts_of}
use Rattle.bounds.specs.Extents.{points}
use Rattle.bounds.specs.Layout.{data_start, input_bytes, root_bytes, root_sizes, phases, placed, total, laid_in, laid_out}
use Rattle.bounds.specs.Verdict.{inferred}
use Rattle.bounds_laws.specs.Closure.{is_put_in, is_boxed}
use Rattle.bounds_laws.specs.Laws.{LiesIn, IsBoxed, IsComputed, consumer_in}
use Rattle.bounds_laws.proofs.BoxFacts.{has_box}
use Rattle.bounds_laws.proofs.BoxesProduced.{boxes_are_produced}
use Rattle.bounds_laws.proofs.Closure.{all_reads_are_held}
use Rattle.bounds_laws.proofs.OwnReads.{output_lies}
use Rattle.bounds_laws.proofs.PutIn.{pair_there}
use Rattle.bounds.specs.Stages.{IsAtRoot}
use Rattle.lowering.proofs.Facts.{few_at}
use Rattle.lowering.proofs.Offsets.{more_none, less_none}
use Rattle.hrv_compiler.specs.Outputs.{Holds}
use Rattle.hrv_compiler.proofs.Low.{layout_is, own_few}

-- ---- where roots lie

record IsPlaced (start end : ℕ) (found : Option ℕ) (size : ℕ) : Type 0 where
  pub at : ℕ
  pub is : found ≡ Some at
  pub aligned : at % 4 ≡ 0
  pub above : start ≤ at
  pub within : at + size ≤ end

whole_root : (level : ComputeLevel) (source_box : Option SourceBox) → root_bytes level source_box % 4 ≡ 0
whole_root places.Root None = refl
whole_root places.Root (Some source_box) = omega arith
whole_root places.Inlined source_box = refl
whole_root (places.At at) source_box = refl
whole_root places.Nowhere source_box = refl

root_at : (start : ℕ) (standings : List FuncPlacement) (boxes : List (Option SourceBox)) (func_index : ℕ) (placement : FuncPlacement) (source_box : Option SourceBox) → start % 4 ≡ 0
    → slice_get standings func_index ≡ Some placement → slice_get boxes func_index ≡ Some source_box
    → IsPlaced start (start + total (root_sizes standings boxes)) (slice_get (placed start (root_sizes standings boxes)) func_index) (root_bytes placement.place source_box)
root_at start [] boxes func_index placement source_box aligned s b = absurd cc
root_at start (first ∷ standings) [] func_index placement source_box aligned s b = absurd cc
root_at start (first ∷ standings) (one ∷ boxes) zero placement source_box aligned s b =
    let same : first ≡ placement = cc in
    let like : one ≡ source_box = cc in
    let size : root_bytes placement.place source_box ≡ root_bytes first.place one = sym (ap (λ (t : FuncPlacement). root_bytes t.place one) same
    ∙ ap (root_bytes placement.place) like) in
    record { at = start; is = refl; aligned = aligned; above = omega arith; within = omega (arith, size) }
root_at start (first ∷ standings) (one ∷ boxes) (suc func_index) placement source_box aligned s b =
    let size = root_bytes first.place one in
    let w : size % 4 ≡ 0 = whole_root first.place one in
    let next : (start + size) % 4 ≡ 0 = omega (arith, aligned, w) in
    let rest = root_at (start + size) standings boxes func_index placement source_box next s b in
    record { at = rest.at; is = rest.is; aligned = rest.aligned; above = omega (arith, rest.above); within = omega (arith, rest.within) }

whole_inputs : (inputs : List Input) → total (map input_bytes inputs) % 4 ≡ 0
whole_inputs [] = refl
whole_inputs (input ∷ inputs) = let one = whole_input input in let rest = whole_inputs inputs in omega (arith, one, rest)
  where
    whole_input : (input : Input) → input_bytes input % 4 ≡ 0
    whole_input input = by_kind input.is_bytes refl
      where
        by_kind : (kind : Bool) → input.is_bytes ≡ kind → input_bytes input % 4 ≡ 0
        by_kind true e = rw e (omega arith)
        by_kind false e = rw e (omega arith)

-- ---- the output's box

record BoxOf (entry : Option (Option SourceBox)) : Type 0 where
  pub own : SourceBox
  pub is : entry ≡ Some (Some own)

boxed_one : (entry : Option (Option SourceBox)) (x y : ℕ) → is_boxed entry x y ≡ true → BoxOf entry
boxed_one None x y e = absurd cc
boxed_one (Some None) x y e = absurd cc
boxed_one (Some (Some own)) x y e = record { own = own; is = refl }

drawn_func : (func : Option Func) (n : ℕ) → is_func_of func n ≡ true → IsSome func
drawn_func None n e = absurd cc
drawn_func (Some func) n e = record { value = func; is = refl }

or_second : (a b : Bool) → a ≡ false → (a || b) ≡ true → b ≡ true
or_second true b f e = absurd cc
or_second false b f e = e

-- where no input holds anything
nothing : Planes
nothing place x y = 0

answers_nothing : (funcs : List Func) (s : Source) (x y : ℕ) → reads_of nothing (pixels funcs nothing 0) s x y ≡ 0
unfolding nothing pixels
answers_nothing funcs (sources.Input place) x y = refl
answers_nothing funcs (sources.Func place) x y = refl

-- the output's Func is computed at root
pub record RootOutput (pipeline : Pipeline) (schedule : Schedule) (boxes : Boxes) : Type 0 where
  pub func : Func
  pub plan : FuncPlan
  pub own : SourceBox
  pub at_root : IsAtRoot pipeline schedule boxes pipeline.output.func func plan own

pub record OutputBox (pipeline : Pipeline) (boxes : Boxes) : Type 0 where
  pub own : SourceBox
  pub is : slice_get boxes.funcs pipeline.output.func ≡ Some (Some own)
  pub at : ℕ
  pub at_is : slice_get boxes.layout.roots pipeline.output.func ≡ Some at
  pub holds : Holds at own pipeline.output.width pipeline.output.height
  pub aligned : at % 4 ≡ 0
  pub above : data_start ≤ at
  pub within : at + 4 * points own ≤ data_start + boxes.layout.size

module _ (pipeline : Pipeline) (schedule : Schedule) (boxes : Boxes) (rules : IsWellFormed pipeline) (accepted : IsAccepted pipeline schedule)
    (is : inferred pipeline schedule ≡ Ok boxes) where
  abbrev output : ℕ
  output = pipeline.output.func

  begun : AnswerWords pipeline.inputs (reads_of nothing (pixels pipeline.funcs nothing 0))
  begun = record {
    words = λ s x y l k. subst (λ (n : ℕ). n < 2 ^ 32) (sym (answers_nothing pipeline.funcs s x y)) (omega arith);
    bytes = λ place input there b x y. subst (λ (n : ℕ). n < 256) (sym (answers_nothing pipeline.funcs (sources.Input place) x y)) (omega arith);
  }

  all_standings : schedule.standings ≡ standings_from pipeline schedule.funcs 0 schedule.funcs
  unfolding standing.standings
  all_standings = accepted.standings

  own_standing : IsSome (slice_get schedule.standings output)
  own_standing =
      let drawn = drawn_func (slice_get pipeline.funcs output) pipeline.output.dimensions rules.drawn in
      let plan = pair_there IsPlan pipeline.funcs schedule.funcs output drawn.value accepted.plans drawn.is in
      subst (λ (l : List FuncPlacement). IsSome (slice_get l output)) (sym all_standings) (standing_some pipeline schedule.funcs 0 schedule.funcs output plan.value
      plan.is)

  known : (own_standing.value.is_reached ≡ true) × (own_standing.value.place ≡ places.Root)
  known = output_standing pipeline schedule.funcs own_standing.value (ap (λ (l : List FuncPlacement). slice_get l output) (sym all_standings) ∙ own_standing.is)

  output_computed : is_put_in (slice_get schedule.standings output) ≡ false
  output_computed = ap is_put_in own_standing.is ∙ (ap (λ (b : Bool). b && is_inlined own_standing.value.place) known.0 ∙ ap is_inlined known.1)

  extents : (is_width pipeline.output.width ≡ true) × (is_height pipeline.output.width pipeline.output.height ≡ true)
  extents = and_parts (is_width pipeline.output.width) (is_height pipeline.output.width pipeline.output.height) rules.output

  wide : (1 ≤ pipeline.output.width) × (pipeline.output.width ≤ 65536)
  wide =
      let k = and_parts (nat_le 1 pipeline.output.width) (nat_le pipeline.output.width 65536) extents.0 in
      (leb-true 1 pipeline.output.width k.0, leb-true pipeline.output.width 65536 k.1)

  high : (1 ≤ pipeline.output.height) × (pipeline.output.height ≤ 65536)
  high =
      let all = and_parts (nat_le 1 pipeline.output.height && nat_le pipeline.output.height 65536) (nat_le (pipeline.output.width * pipeline.output.height)
      1048576) extents.1 in
      let k = and_parts (nat_le 1 pipeline.output.height) (nat_le pipeline.output.height 65536) all.0 in
      (leb-true 1 pipeline.output.height k.0, leb-true pipeline.output.height 65536 k.1)

  box_found : BoxOf (slice_get boxes.funcs output)
  box_found =
      boxed_one (slice_get boxes.funcs output) 0 0
      (or_second (is_put_in (slice_get schedule.standings output)) (is_boxed (slice_get boxes.funcs output) 0 0) output_computed
      (all_reads_are_held pipeline schedule boxes rules accepted is nothing begun 0 0 (omega (arith, wide.0)) (omega (arith, high.0))).0)

  pub root_output : RootOutput pipeline schedule boxes
  root_output =
      let drawn = drawn_func (slice_get pipeline.funcs output) pipeline.output.dimensions rules.drawn in
      let plan = pair_there IsPlan pipeline.funcs schedule.funcs output drawn.value accepted.plans drawn.is in
      record {
        func = drawn.value;
        plan = plan.value;
        own = box_found.own;
        at_root = record {
          func_is = drawn.is;
          plan_is = plan.is;
          box_is = box_found.is;
          standing = own_standing.value;
          there = record { standing = own_standing.is; reached = known.0 };
          placed_is = known.1;
        };
      }

  lasts_none : box_found.own.lasts ≡ no_loops
  lasts_none =
      let b = has_box pipeline schedule boxes accepted is output box_found.own box_found.is in
      let same : b.standing ≡ own_standing.value = let p = b.there.standing in let q = own_standing.is in cc in
      b.lasts ∙ (ap (λ (t : FuncPlacement). lasts_of (consumer_in schedule boxes.funcs t.place)) same
      ∙ ap (λ (p : ComputeLevel). lasts_of (consumer_in schedule boxes.funcs p)) known.1)

  rules_of : IsBox box_found.own
  rules_of =
      (boxes_are_produced pipeline schedule boxes is output own_standing.value own_standing.is known.0 (subst (λ (p : ComputeLevel). IsComputed output p) (sym known.1)
      tt) box_found.own box_found.is).box

  module _ (x y : ℕ) (inside_x : x < pipeline.output.width) (inside_y : y < pipeline.output.height) where
    lies : LiesIn no_loops box_found.own x y
    lies = subst (λ (e : Option (Option SourceBox)). IsBoxed no_loops e x y) box_found.is (output_lies pipeline schedule boxes rules is own_standing.value
        own_standing.is known.0 known.1 x y inside_x inside_y)

    lies_x : Lies no_loops no_loops box_found.own.x x
    lies_x = subst (λ (l : List ℕ). Lies l no_loops box_found.own.x x) lasts_none lies.first

    lies_y : Lies no_loops no_loops box_found.own.y y
    lies_y = subst (λ (l : List ℕ). Lies l no_loops box_found.own.y y) lasts_none lies.second

  left : box_found.own.x.low ≤ origin
  left =
      let l = lies_x 0 0 (omega (arith, wide.0)) (omega (arith, high.0)) in
      omega (arith, l.low, more_none box_found.own.x.base, less_none box_found.own.x.base)

  top : box_found.own.y.low ≤ origin
  top =
      let l = lies_y 0 0 (omega (arith, wide.0)) (omega (arith, high.0)) in
      omega (arith, l.low, more_none box_found.own.y.base, less_none box_found.own.y.base)

  right : origin + pipeline.output.width ≤ box_found.own.x.high + 1
  right =
      let l = lies_x (pipeline.output.width - 1) 0 (omega (arith, wide.0)) (omega (arith, high.0)) in
      omega (arith, l.high, wide.0, wide.1, more_none box_found.own.x.base, less_none box_found.own.x.base)

  bottom : origin + pipeline.output.height ≤ box_found.own.y.high + 1
  bottom =
      let l = lies_y 0 (pipeline.output.height - 1) (omega (arith, wide.0)) (omega (arith, high.0)) in
      omega (arith, l.high, high.0, high.1, more_none box_found.own.y.base, less_none box_found.own.y.base)

  -- ---- in the data

  abbrev roots : List ℕ
  roots = root_sizes schedule.standings boxes.funcs

  abbrev roots_start : ℕ
  roots_start = data_start + 8 * phases schedule.standings pipeline.funcs boxes.funcs + total (map input_bytes pipeline.inputs)

  start_aligned : roots_start % 4 ≡ 0
  start_aligned = let w = whole_inputs pipeline.inputs in omega (arith, w)

  placed_in : IsPlaced roots_start (roots_start + total roots) (slice_get (placed roots_start roots) output) (root_bytes own_standing.value.place
      (Some box_found.own))
  placed_in = root_at roots_start schedule.standings boxes.funcs output own_standing.value (Some box_found.own) start_aligned own_standing.is box_found.is

  size_is : root_bytes own_standing.value.place (Some box_found.own) ≡ points box_found.own * 4
  size_is = ap (λ (p : ComputeLevel). root_bytes p (Some box_found.own)) known.1

  laid : boxes.layout ≡ laid_out pipeline schedule boxes.funcs
  laid = layout_is pipeline schedule boxes is

  root_there : slice_get boxes.layout.roots output ≡ Some placed_in.at
  unfolding laid_in
  root_there = ap (λ (l : Layout). slice_get l.roots output) laid ∙ placed_in.is

  ends : roots_start + total roots ≤ data_start + boxes.layout.size
  unfolding laid_in
  ends = rw laid (omega arith)

  size_few : boxes.layout.size ≤ 33554432
  size_few = leb-true boxes.layout.size 33554432 (own_few pipeline schedule boxes is).1

  pub output_box : OutputBox pipeline boxes
  output_box =
      let within : placed_in.at + 4 * points box_found.own ≤ data_start + boxes.layout.size = omega (arith, placed_in.within, size_is, ends) in
      record {
        own = box_found.own;
        is = box_found.is;
        at = placed_in.at;
        at_is = root_there;
        holds = record {
          rules = rules_of;
          few = few_at boxes.funcs output box_found.own (own_few pipeline schedule boxes is).0 box_found.is;
          low = omega (arith, within, size_few);
          left = left;
          right = right;
          top = top;
          bottom = bottom;
          wide = wide.0;
          high = high.0;
        };
        aligned = placed_in.aligned;
        above = omega (arith, placed_in.above);
        within = within;
      }

  pub output_points : pipeline.output.width * pipeline.output.height ≤ 1048576
  output_points =
      let all = and_parts (nat_le 1 pipeline.output.height && nat_le pipeline.output.height 65536) (nat_le (pipeline.output.width * pipeline.output.height)
      1048576) extents.1 in
      leb-true (pipeline.output.width * pipeline.output.height) 1048576 all.1
