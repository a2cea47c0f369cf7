-- What an accepted schedule of a well-formed pipeline gives: few loops, small splits, few updates.
use Rattle.std.proofs.Common.{◌≡◌, ℕ, zero, suc, List, [], ◌∷◌, length, Some, None, refl, subst}
use Rattle.std.specs.Prelude.{slice_get}
use Rattle.std.specs.List.{AllByRecursion}
use Rattle.std.proofs.lemmas.Bool.{leb-true}
use Rattle.halide_pipeline.specs.declared.definitions.Func.{Func}
use Rattle.halide_pipeline.specs.Pipelines.{Pipeline}
use Rattle.halide_pipeline.specs.WellFormed.{IsWellFormed}
use Rattle.schedule.specs.declared.plans.FuncPlan.{FuncPlan}
use Rattle.schedule.specs.declared.schedules.Schedule.{Schedule}
use Rattle.schedule.specs.Accepted.{Pairwise, IsPlan, IsAccepted}
use Rattle.schedule_loops.proofs.Few.{few_splits}
use Rattle.bounds.specs.Layout.{IsInput, AreInputs, HasFewUpdates, HaveFewUpdates}
use Rattle.bounds.specs.Views.{IsSmall, IsSmallPlan, AreSmall}

small : (func : Func) (plan : FuncPlan) → IsPlan func plan → IsSmall plan.pure
small func plan planned = record { splits = few_splits func None plan.pure planned.pure; loops = planned.pure.few }

each_small : (funcs : List Func) (plans : List FuncPlan) → Pairwise IsPlan funcs plans → AllByRecursion IsSmallPlan plans
each_small [] [] planned = tt
each_small [] (plan ∷ plans) planned = absurd planned
each_small (func ∷ funcs) [] planned = absurd planned
each_small (func ∷ funcs) (plan ∷ plans) planned = (small func plan planned.0, each_small funcs plans planned.1)

plan_is : (func_plan plan : FuncPlan) → Some func_plan ≡ Some plan → func_plan ≡ plan
plan_is func_plan plan e = cc

small_at : (plans : List FuncPlan) → AllByRecursion IsSmallPlan plans → (at : ℕ) (plan : FuncPlan) → slice_get plans at ≡ Some plan → IsSmall plan.pure
small_at [] all zero plan e = absurd cc
small_at [] all (suc at) plan e = absurd cc
small_at (own ∷ plans) all zero plan e = subst (λ (p : FuncPlan). IsSmall p.pure) (plan_is own plan e) all.0
small_at (own ∷ plans) all (suc at) plan e = small_at plans all.1 at plan e

pub are_small : (pipeline : Pipeline) (schedule : Schedule) → IsAccepted pipeline schedule → AreSmall schedule
are_small pipeline schedule accepted =
    let each = each_small pipeline.funcs schedule.funcs accepted.plans in
    record { stages = small_at schedule.funcs each; each = each }

all_at : {A : Type 0} (P : A → Type 0) (xs : List A) → ((func_index : ℕ) (x : A) → slice_get xs func_index ≡ Some x → P x) → AllByRecursion P xs
all_at P [] each = tt
all_at P (x ∷ xs) each = (each 0 x refl, all_at P xs (λ func_index y e. each (suc func_index) y e))

pub are_inputs : (pipeline : Pipeline) → IsWellFormed pipeline → AreInputs pipeline.inputs
are_inputs pipeline rules = all_at IsInput pipeline.inputs rules.inputs

pub have_few_updates : (pipeline : Pipeline) → IsWellFormed pipeline → HaveFewUpdates pipeline.funcs
have_few_updates pipeline rules = all_at HasFewUpdates pipeline.funcs (λ place func e. leb-true (length func.updates) 4 (rules.funcs place func e).few_updates)
