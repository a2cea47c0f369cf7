-- What an accepted schedule gives for the stages of a Func.
use Rattle.std.proofs.Common.{◌≡◌, ℕ, zero, suc, true, List, [], ◌∷◌, Some, None, subst}
use Rattle.std.specs.Prelude.{slice_get}
use Rattle.std.specs.List.{AllByRecursion}
use Rattle.halide_pipeline.specs.declared.definitions.Func.{Func}
use Rattle.halide_pipeline.specs.declared.definitions.Update.{Update}
use Rattle.schedule_lines.specs.declared.stages.Stage.{Stage}
use Rattle.schedule.specs.declared.plans.FuncPlan.{FuncPlan}
use Rattle.schedule.specs.declared.placements.FuncPlacement.{FuncPlacement}
use Rattle.schedule.specs.Accepted.{Pairwise, IsPlan, IsLegal, IsComputed, IsUpdateStage, Keeps}
use Rattle.schedule.specs.Legal.{is_root}
use Rattle.schedule_loops.specs.Stages.{IsStageOf, KeepsRules}

some_is : {A : Type 0} (x y : A) → Some x ≡ Some y → x ≡ y
some_is x y e = cc

pub pair_at : {A B : Type 0} (P : A → B → Type 0) (xs : List A) (ys : List B) (at : ℕ) (x : A) (y : B) → Pairwise P xs ys → slice_get xs at ≡ Some x
    → slice_get ys at ≡ Some y → P x y
pair_at P [] ys zero x y all ex ey = cc
pair_at P [] ys (suc at) x y all ex ey = cc
pair_at P (a ∷ xs) [] at x y all ex ey = absurd all
pair_at {A} {B} P (a ∷ xs) (b ∷ ys) zero x y all ex ey = subst (λ (z : A). P z y) (some_is a x ex) (subst (λ (z : B). P a z) (some_is b y ey) all.0)
pair_at P (a ∷ xs) (b ∷ ys) (suc at) x y all ex ey = pair_at P xs ys at x y all.1 ex ey

each_at : {A : Type 0} (P : A → Type 0) (xs : List A) (at : ℕ) (x : A) → AllByRecursion P xs → slice_get xs at ≡ Some x → P x
each_at P [] zero x all e = cc
each_at P [] (suc at) x all e = cc
each_at P (a ∷ xs) zero x all e = subst P (some_is a x e) all.0
each_at P (a ∷ xs) (suc at) x all e = each_at P xs at x all.1 e

pub accepted : (func : Func) (plan : FuncPlan) (placement : FuncPlacement) → IsPlan func plan → IsLegal plan placement → placement.is_reached ≡ true
    → (IsStageOf func None plan.pure × KeepsRules plan.pure)
    × ((at : ℕ) (update : Update) (stage : Stage) → slice_get func.updates at ≡ Some update → slice_get plan.updates at ≡ Some stage
    → IsStageOf func (Some update) stage × KeepsRules stage)
accepted func plan placement planned legal reached =
    let computed : IsComputed plan placement = legal reached in (
      (planned.pure, (is_root placement.place, computed.pure)),
      λ at update stage eu es. (
        pair_at (IsUpdateStage func) func.updates plan.updates at update stage planned.updates eu es,
        (is_root placement.place, λ rule. each_at (Keeps rule (is_root placement.place)) plan.updates at stage (computed.updates rule) es),
      ),
    )
