-- What is known of a Func that is computed.
use Rattle.std.proofs.Common.{◌≡◌, ℕ, zero, suc, ◌*◌, ◌^◌, ◌<◌, ◌≤◌, true, List, [], ◌∷◌, length, Option, Some, None, sym, ap, ◌∙◌, subst, arith}
use Rattle.std.specs.Prelude.{◌&&◌, nat_le, slice_get, Ok}
use Rattle.std.proofs.lemmas.Bool.{and_parts, leb-true}
use Rattle.std.proofs.Math.Nat.{mul-le-mul}
use Rattle.halide_pipeline.specs.declared.definitions.Func.{Func}
use Rattle.halide_pipeline.specs.declared.expressions.Variable.TheVariants as variables
use Rattle.halide_pipeline.specs.Pipelines.{Pipeline}
use Rattle.schedule.specs.declared.plans.FuncPlan.{FuncPlan}
use Rattle.schedule.specs.declared.schedules.Schedule.{Schedule}
use Rattle.schedule.specs.declared.placements.ComputeLevel.{ComputeLevel}
use Rattle.schedule.specs.declared.placements.LoopPosition.{LoopPosition}
use Rattle.schedule.specs.declared.placements.ComputeLevel.TheVariants as places
use Rattle.schedule.specs.declared.placements.FuncPlacement.{FuncPlacement}
use Rattle.schedule.specs.Accepted.{IsAccepted, IsPlan, IsLegal, IsProduced as HasConsumer}
use Rattle.schedule.specs.Uses.{IsReached}
use Rattle.schedule.proofs.Uses.{numbered_at}
use Rattle.schedule_loops.specs.Visits.{AreSplits, shifts_fit}
use Rattle.schedule_loops.specs.Stages.{IsStageOf, KeepsRules}
use Rattle.schedule_loops.proofs.AcceptedStages.{accepted as accepted_stages, pair_at}
use Rattle.schedule_loops.proofs.Few.{few_splits}
use Rattle.bounds.specs.declared.boxes.SourceBox.{SourceBox}
use Rattle.bounds.specs.declared.verdict.Boxes.{Boxes}
use Rattle.bounds.specs.Boxes.{IsBox, lasts_of}
use Rattle.bounds.specs.Extents.{extent, points, extents_of}
use Rattle.bounds.specs.Verdict.{have_few_points, inferred}
use Rattle.bounds_laws.specs.ConsumerLaws.{IsProduced}
use Rattle.bounds_laws.specs.Laws.{IsComputed, consumer_in}
use Rattle.bounds_laws.proofs.BoxesProduced.{boxes_are_produced}
use Rattle.bounds_laws.proofs.BoxFacts.{is_judged, shifts_at}
use Rattle.lowering_nests.specs.Nests.{AreFew}
use Rattle.bounds.specs.Stages.{IsComputedAt}

-- ---- where it is computed

-- a Func at a loop is before its consumer
pub produced_before : (pipeline : Pipeline) (schedule : Schedule) → IsAccepted pipeline schedule → (func_index : ℕ) (placement : FuncPlacement)
    → IsReached schedule.standings func_index placement
    → (at : LoopPosition) → placement.place ≡ places.At at → func_index < at.func
produced_before pipeline schedule accepted func_index placement there at placed =
    omega (arith, (numbered_at (HasConsumer pipeline schedule.funcs) 0 schedule.standings accepted.consumers func_index placement there.standing at placed).later)

-- ---- few points

pub few_at : (boxes : List (Option SourceBox)) (func_index : ℕ) (source_box : SourceBox) → have_few_points boxes ≡ true → slice_get boxes func_index ≡ Some (Some source_box)
    → points source_box ≤ 2 ^ 20
few_at [] func_index source_box few there = absurd cc
few_at (None ∷ boxes) zero source_box few there = absurd cc
few_at (None ∷ boxes) (suc func_index) source_box few there = few_at boxes func_index source_box few there
few_at (Some other ∷ boxes) zero source_box few there =
    let same : other ≡ source_box = cc in
    leb-true (points source_box) (2 ^ 20) (subst (λ (b : SourceBox). nat_le (points b) (2 ^ 20) ≡ true) same (and_parts (nat_le (points other) (2 ^ 20))
    (have_few_points boxes) few).0)
few_at (Some other ∷ boxes) (suc func_index) source_box few there = few_at boxes func_index source_box (and_parts (nat_le (points other) (2 ^ 20)) (have_few_points boxes) few).1 there

pub first_few : (a b most : ℕ) → 1 ≤ b → a * b ≤ most → a ≤ most
first_few a b most some few = let m : a * 1 ≤ a * b = mul-le-mul (omega arith) some in omega (arith, m, few)

pub second_few : (a b most : ℕ) → 1 ≤ a → a * b ≤ most → b ≤ most
second_few a b most some few = let m : 1 * b ≤ a * b = mul-le-mul some (omega arith) in omega (arith, m, few)

module _ (pipeline : Pipeline) (schedule : Schedule) (boxes : Boxes) (func_index : ℕ) (func : Func) (plan : FuncPlan) (source_box : SourceBox)
    (accepted : IsAccepted pipeline schedule) (is : inferred pipeline schedule ≡ Ok boxes)
    (placed : ComputeLevel) (here : IsComputed func_index placed) (at : IsComputedAt pipeline schedule boxes placed func_index func plan source_box) where
  computed : IsComputed func_index at.standing.place
  computed = subst (λ (p : ComputeLevel). IsComputed func_index p) (sym at.placed_is) here

  produced : IsProduced (consumer_in schedule boxes.funcs at.standing.place) source_box
  produced = boxes_are_produced pipeline schedule boxes is func_index at.standing at.there.standing at.there.reached computed source_box at.box_is

  pub is_box : IsBox source_box
  is_box = produced.box

  pub lasts_are : source_box.lasts ≡ lasts_of (consumer_in schedule boxes.funcs placed)
  lasts_are = produced.lasts ∙ ap (λ (p : ComputeLevel). lasts_of (consumer_in schedule boxes.funcs p)) at.placed_is

  plan_so : IsPlan func plan
  plan_so = pair_at IsPlan pipeline.funcs schedule.funcs func_index func plan accepted.plans at.func_is at.plan_is

  pub staged : IsStageOf func None plan.pure × KeepsRules plan.pure
  staged = (accepted_stages func plan at.standing plan_so (pair_at IsLegal schedule.funcs schedule.standings func_index plan at.standing accepted.legal at.plan_is
      at.there.standing) at.there.reached).0

  pub few_loops : length plan.pure.loops ≤ 5
  few_loops = staged.0.few

  pub splits : AreSplits plan.pure.splits
  splits = few_splits func None plan.pure staged.0

  pub fits : shifts_fit (extents_of source_box) plan.pure.splits ≡ true
  fits = shifts_at schedule.funcs boxes.funcs func_index plan source_box (is_judged pipeline schedule boxes is).shifts at.plan_is at.box_is

  pub few_points : points source_box ≤ 2 ^ 20
  few_points =
      let all = and_parts (have_few_points boxes.inputs) (have_few_points boxes.funcs && nat_le boxes.layout.size 33554432) (is_judged pipeline schedule boxes
      is).few in
      few_at boxes.funcs func_index source_box (and_parts (have_few_points boxes.funcs) (nat_le boxes.layout.size 33554432) all.1).0 at.box_is

  pub few : AreFew (extents_of source_box)
  few variables.FirstArgument = first_few (extent source_box.x) (extent source_box.y) (2 ^ 20) (omega (arith, is_box.y.ordered)) few_points
  few variables.SecondArgument = second_few (extent source_box.x) (extent source_box.y) (2 ^ 20) (omega (arith, is_box.x.ordered)) few_points
  few variables.FirstReduction = omega arith
  few variables.SecondReduction = omega arith
