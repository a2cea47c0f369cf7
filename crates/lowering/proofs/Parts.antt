-- The parts of a Func that is computed at root, as they are looked up.
use Rattle.std.proofs.Common.{◌≡◌, ℕ, true, Option, Some, None, refl, ap}
use Rattle.std.specs.Prelude.{slice_get}
use Rattle.std.proofs.lemmas.Bool.{and_parts}
use Rattle.halide_pipeline.specs.declared.definitions.Func.{Func}
use Rattle.halide_pipeline.specs.Pipelines.{Pipeline}
use Rattle.schedule.specs.declared.plans.FuncPlan.{FuncPlan}
use Rattle.schedule.specs.declared.schedules.Schedule.{Schedule}
use Rattle.schedule.specs.declared.placements.ComputeLevel.{ComputeLevel}
use Rattle.schedule.specs.declared.placements.ComputeLevel.TheVariants as places
use Rattle.schedule.specs.declared.placements.FuncPlacement.{FuncPlacement}
use Rattle.schedule.specs.Legal.{is_root}
use Rattle.bounds.specs.declared.boxes.SourceBox.{SourceBox}
use Rattle.bounds.specs.declared.verdict.Boxes.{Boxes}
use Rattle.bounds.specs.Extents.{box_in}
use Rattle.lowering.specs.PurePhases.{is_at_root}
use Rattle.bounds.specs.Stages.{IsAtRoot}

root_is : (level : ComputeLevel) → is_root level ≡ true → level ≡ places.Root
root_is places.Root e = refl
root_is (places.At at) e = absurd cc
root_is places.Inlined e = absurd cc
root_is places.Nowhere e = absurd cc

box_is : (found : Option (Option SourceBox)) (source_box : SourceBox) → box_in found ≡ Some source_box
    → found ≡ Some (Some source_box)
box_is None source_box e = absurd cc
box_is (Some other) source_box e = ap (λ (o : Option SourceBox). Some o) e

module _ (pipeline : Pipeline) (schedule : Schedule) (boxes : Boxes) (func_index : ℕ) where
  pub at_root : (placement : FuncPlacement) (func : Func) (plan : FuncPlan) (source_box : SourceBox) → slice_get schedule.standings func_index ≡ Some placement
      → is_at_root placement ≡ true
      → slice_get pipeline.funcs func_index ≡ Some func → slice_get schedule.funcs func_index ≡ Some plan → box_in (slice_get boxes.funcs func_index) ≡ Some source_box
      → IsAtRoot pipeline schedule boxes func_index func plan source_box
  at_root placement func plan source_box found root func_is plan_is own_is =
      let parts = and_parts placement.is_reached (is_root placement.place) root in
      record {
        func_is = func_is;
        plan_is = plan_is;
        box_is = box_is (slice_get boxes.funcs func_index) source_box own_is;
        standing = placement;
        there = record { standing = found; reached = parts.0 };
        placed_is = root_is placement.place parts.1;
      }
