-- The stage of an update of a Func that is computed.
use Rattle.std.proofs.Common.{◌≡◌, ℕ, ◌+◌, ◌^◌, ◌<◌, ◌≤◌, length, Some, arith, inl, inr}
use Rattle.std.specs.Prelude.{◌&&◌, nat_le, slice_get, Ok}
use Rattle.std.proofs.lemmas.Bool.{and_parts, cases_lt, leb-true}
use Rattle.std.proofs.lemmas.Option.{slice_get_past}
use Rattle.halide_pipeline.specs.declared.definitions.Func.{Func}
use Rattle.halide_pipeline.specs.declared.definitions.Update.{Update}
use Rattle.halide_pipeline.specs.declared.expressions.Variable.TheVariants as variables
use Rattle.halide_pipeline.specs.Pipelines.{Pipeline}
use Rattle.halide_pipeline.specs.WellFormed.{IsWellFormed}
use Rattle.schedule_lines.specs.declared.stages.Stage.{Stage}
use Rattle.schedule.specs.declared.plans.FuncPlan.{FuncPlan}
use Rattle.schedule.specs.declared.schedules.Schedule.{Schedule}
use Rattle.schedule.specs.declared.placements.FuncPlacement.{FuncPlacement}
use Rattle.schedule.specs.Accepted.{IsAccepted, IsPlan, IsLegal}
use Rattle.schedule.specs.Uses.{IsReached}
use Rattle.schedule_loops.specs.Visits.{AreSplits}
use Rattle.schedule_loops.specs.Stages.{IsStageOf, KeepsRules}
use Rattle.schedule_loops.proofs.AcceptedStages.{accepted as accepted_stages, pair_at}
use Rattle.schedule_loops.proofs.Few.{few_splits}
use Rattle.bounds.specs.declared.boxes.SourceBox.{SourceBox}
use Rattle.bounds.specs.declared.verdict.Boxes.{Boxes}
use Rattle.bounds.specs.Boxes.{IsBox}
use Rattle.bounds.specs.Extents.{extent, points, update_extents}
use Rattle.bounds.specs.Verdict.{have_few_points, inferred}
use Rattle.bounds_laws.specs.Laws.{IsComputed}
use Rattle.bounds_laws.proofs.BoxesProduced.{boxes_are_produced}
use Rattle.bounds_laws.proofs.BoxFacts.{is_judged}
use Rattle.lowering_nests.specs.Nests.{AreFew}
use Rattle.lowering.specs.Updates.{IsUpdateAt}
use Rattle.lowering.proofs.Facts.{few_at, first_few, second_few}
use Rattle.lowering.proofs.UpdateFacts as facts

module _ (pipeline : Pipeline) (schedule : Schedule) (accepted : IsAccepted pipeline schedule) (func_index : ℕ) (func : Func) (plan : FuncPlan) (placement : FuncPlacement)
    (func_is : slice_get pipeline.funcs func_index ≡ Some func) (there : IsReached schedule.standings func_index placement) (at : ℕ) (update : Update) (stage : Stage)
    (it : IsUpdateAt schedule func_index func plan at update stage) where
  pub staged : IsStageOf func (Some update) stage × KeepsRules stage
  staged =
      (accepted_stages func plan placement (pair_at IsPlan pipeline.funcs schedule.funcs func_index func plan accepted.plans func_is it.plan_is)
      (pair_at IsLegal schedule.funcs schedule.standings func_index plan placement accepted.legal it.plan_is there.standing) there.reached).1 at update stage
      it.update_is it.stage_is

  pub few_loops : length stage.loops ≤ 5
  few_loops = staged.0.few

  pub splits : AreSplits stage.splits
  splits = few_splits func (Some update) stage staged.0

-- there are few Funcs
pub place_small : (pipeline : Pipeline) → IsWellFormed pipeline → (func_index : ℕ) (func : Func) → slice_get pipeline.funcs func_index ≡ Some func → func_index + 1 < 2 ^ 64
place_small pipeline rules func_index func func_is = elim (cases_lt func_index (length pipeline.funcs)) [
  | inl l ↦ omega (arith, l, leb-true (length pipeline.funcs) 12 rules.few_funcs)
  | inr l ↦ let none = slice_get_past pipeline.funcs func_index l in absurd cc
]

module _ (pipeline : Pipeline) (schedule : Schedule) (boxes : Boxes) (rules : IsWellFormed pipeline) (accepted : IsAccepted pipeline schedule)
    (is : inferred pipeline schedule ≡ Ok boxes)
    (func_index : ℕ) (func : Func) (source_box : SourceBox) (func_is : slice_get pipeline.funcs func_index ≡ Some func) (box_is : slice_get boxes.funcs func_index ≡ Some (Some source_box))
    (at : ℕ) (update : Update) (update_is : slice_get func.updates at ≡ Some update) (placement : FuncPlacement) (there : IsReached schedule.standings func_index placement)
    (computed : IsComputed func_index placement.place) where
  pub is_box : IsBox source_box
  is_box = (boxes_are_produced pipeline schedule boxes is func_index placement there.standing there.reached computed source_box box_is).box

  few_points : points source_box ≤ 2 ^ 20
  few_points =
      let all = and_parts (have_few_points boxes.inputs) (have_few_points boxes.funcs && nat_le boxes.layout.size 33554432) (is_judged pipeline schedule boxes
      is).few in
      few_at boxes.funcs func_index source_box (and_parts (have_few_points boxes.funcs) (nat_le boxes.layout.size 33554432) all.1).0 box_is

  pub few : AreFew (update_extents source_box update)
  few variables.FirstArgument = first_few (extent source_box.x) (extent source_box.y) (2 ^ 20) (omega (arith, is_box.y.ordered)) few_points
  few variables.SecondArgument = second_few (extent source_box.x) (extent source_box.y) (2 ^ 20) (omega (arith, is_box.x.ordered)) few_points
  few variables.FirstReduction = let l = facts.first_extent update ((rules.funcs func_index func func_is).updates at update update_is).box in omega (arith, l.1)
  few variables.SecondReduction = let l = facts.second_few update ((rules.funcs func_index func func_is).updates at update update_is).box in omega (arith, l.1)
