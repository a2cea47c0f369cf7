-- The layout counts the phases that there are.
use Rattle.std.proofs.Common.{◌≡◌, ℕ, zero, suc, ◌+◌, ◌≤◌, List, [], ◌∷◌, length, Option, Some, None, refl, sym, ap, subst, ◌∙◌, arith}
use Rattle.std.specs.Prelude.{slice_get, Ok}
use Rattle.std.proofs.lemmas.List.{length-append}
use Rattle.halide_pipeline.specs.declared.definitions.Func.{Func}
use Rattle.halide_pipeline.specs.Pipelines.{Pipeline}
use Rattle.schedule.specs.declared.plans.FuncPlan.{FuncPlan}
use Rattle.schedule.specs.declared.schedules.Schedule.{Schedule}
use Rattle.schedule.specs.declared.placements.ComputeLevel.{ComputeLevel}
use Rattle.schedule.specs.declared.placements.ComputeLevel.TheVariants as places
use Rattle.schedule.specs.declared.placements.FuncPlacement.{FuncPlacement}
use Rattle.schedule.specs.Accepted.{IsAccepted, IsPlan}
use Rattle.schedule.specs.Uses.{IsReached}
use Rattle.bounds.specs.declared.boxes.SourceBox.{SourceBox}
use Rattle.bounds.specs.declared.verdict.Boxes.{Boxes}
use Rattle.bounds.specs.Layout.{phases_of, phases}
use Rattle.bounds.specs.Verdict.{inferred}
use Rattle.bounds_laws.proofs.BoxFacts.{has_box}
use Rattle.bounds_laws.proofs.PutIn.{pair_there}
use Rattle.loop_ir.specs.declared.statements.Phase.{Phase}
use Rattle.lowering.specs.Lowered.{ArePhasesOf, None_yet, One_more, IsNotAtRoot, AreLowered, No_func, Passed, Computed}
use Rattle.bounds.specs.Stages.{IsAtRoot}

-- ---- sums

abbrev total : ℕ → (ℕ → ℕ) → ℕ
total zero g = 0
total (suc n) g = g 0 + total n (λ k. g (suc k))

total-zero : (n : ℕ) (g : ℕ → ℕ) → ((k : ℕ) → g k ≡ 0) → total n g ≡ 0
total-zero zero g e = refl
total-zero (suc n) g e = let one = e 0 in let rest = total-zero n (λ k. g (suc k)) (λ k. e (suc k)) in omega (arith, one, rest)

total-next : (n : ℕ) (g : ℕ → ℕ) → total (suc n) g ≡ total n g + g n
total-next zero g = omega arith
total-next (suc n) g = let rest = total-next n (λ k. g (suc k)) in omega (arith, rest)

-- ---- the phases of a place

abbrev count_at : Option FuncPlacement → Option Func → Option (Option SourceBox) → ℕ
count_at None func own = 0
count_at (Some standing) None own = 0
count_at (Some standing) (Some func) None = 0
count_at (Some standing) (Some func) (Some own) = phases_of standing.place func own

abbrev counts : List FuncPlacement → List Func → List (Option SourceBox) → ℕ → ℕ
counts standings funcs boxes k = count_at (slice_get standings k) (slice_get funcs k) (slice_get boxes k)

no-func : (placement : Option FuncPlacement) (own : Option (Option SourceBox)) → count_at placement None own ≡ 0
no-func None own = refl
no-func (Some placement) own = refl

no-box : (placement : Option FuncPlacement) (func : Option Func) → count_at placement func None ≡ 0
no-box None func = refl
no-box (Some placement) None = refl
no-box (Some placement) (Some func) = refl

counted-all : (standings : List FuncPlacement) (funcs : List Func) (boxes : List (Option SourceBox)) (n : ℕ) → length funcs ≤ n
    → phases standings funcs boxes ≡ total n (counts standings funcs boxes)
counted-all [] funcs boxes n l = sym (total-zero n (counts [] funcs boxes) (λ k. refl))
counted-all (standing ∷ standings) [] boxes n l = sym (total-zero n (counts (standing ∷ standings) [] boxes) (λ k. no-func (slice_get (standing ∷ standings) k)
    (slice_get boxes k)))
counted-all (standing ∷ standings) (func ∷ funcs) [] n l = sym (total-zero n (counts (standing ∷ standings) (func ∷ funcs) [])
    (λ k. no-box (slice_get (standing ∷ standings) k) (slice_get (func ∷ funcs) k)))
counted-all (standing ∷ standings) (func ∷ funcs) (own ∷ boxes) zero l = absurd (omega (arith, l))
counted-all (standing ∷ standings) (func ∷ funcs) (own ∷ boxes) (suc n) l = ap (λ (rest : ℕ). phases_of standing.place func own + rest)
    (counted-all standings funcs boxes n (omega (arith, l)))

module _ (pipeline : Pipeline) (schedule : Schedule) (boxes : Boxes) (accepted : IsAccepted pipeline schedule) (is : inferred pipeline schedule ≡ Ok boxes)
  where
    abbrev at_place : ℕ → ℕ
    at_place = counts schedule.standings pipeline.funcs boxes.funcs

    -- a Func at root that has a box is reached
    root-with-box : (func_index : ℕ) (placement : FuncPlacement) (func : Func) (own : SourceBox) → slice_get schedule.standings func_index ≡ Some placement
        → slice_get pipeline.funcs func_index ≡ Some func
        → slice_get boxes.funcs func_index ≡ Some (Some own) → placement.place ≡ places.Root → IsNotAtRoot pipeline schedule boxes func_index → ⊥
    root-with-box func_index placement func own s f b root none =
        let plan = pair_there IsPlan pipeline.funcs schedule.funcs func_index func accepted.plans f in
        let box = has_box pipeline schedule boxes accepted is func_index own b in
        let same : box.standing ≡ placement = let p = box.there.standing in cc in
        none func plan.value own (record {
          func_is = f;
          plan_is = plan.is;
          box_is = b;
          standing = placement;
          there = subst (IsReached schedule.standings func_index) same box.there;
          placed_is = root;
        })

    passed-by : (func_index : ℕ) → IsNotAtRoot pipeline schedule boxes func_index → at_place func_index ≡ 0
    passed-by func_index none = by_all (slice_get schedule.standings func_index) (slice_get pipeline.funcs func_index) (slice_get boxes.funcs func_index) refl refl refl
      where
        by_box : (placement : FuncPlacement) (func : Func) (own : Option SourceBox) (at : ComputeLevel) → slice_get schedule.standings func_index ≡ Some placement
            → slice_get pipeline.funcs func_index ≡ Some func
            → slice_get boxes.funcs func_index ≡ Some own → placement.place ≡ at → phases_of at func own ≡ 0
        by_box placement func None places.Root s f b p = refl
        by_box placement func (Some own) places.Root s f b p = absurd (root-with-box func_index placement func own s f b p none)
        by_box placement func own places.Inlined s f b p = refl
        by_box placement func own (places.At at) s f b p = refl
        by_box placement func own places.Nowhere s f b p = refl

        by_all : (placement : Option FuncPlacement) (func : Option Func) (own : Option (Option SourceBox)) → slice_get schedule.standings func_index ≡ placement
            → slice_get pipeline.funcs func_index ≡ func
            → slice_get boxes.funcs func_index ≡ own → count_at placement func own ≡ 0
        by_all None func own s f b = refl
        by_all (Some placement) None own s f b = refl
        by_all (Some placement) (Some func) None s f b = refl
        by_all (Some placement) (Some func) (Some own) s f b = by_box placement func own placement.place s f b refl

    stages-long : (func_index : ℕ) (func : Func) (plan : FuncPlan) (own : SourceBox) (others : List Phase) (number : ℕ) (made : List Phase)
        → ArePhasesOf pipeline schedule boxes func_index func plan own others number made → length made ≡ length others + number
    stages-long func_index func plan own others _ _ None_yet = omega arith
    stages-long func_index func plan own others _ _ (One_more number made phase before one) =
        let rest = stages-long func_index func plan own others number made before in
        let more = length-append made (phase ∷ []) in
        omega (arith, rest, more)

    at-root : (func_index : ℕ) (func : Func) (plan : FuncPlan) (own : SourceBox) → IsAtRoot pipeline schedule boxes func_index func plan own
        → at_place func_index ≡ length func.updates + 1
    at-root func_index func plan own root =
        ap (λ (s : Option FuncPlacement). count_at s (slice_get pipeline.funcs func_index) (slice_get boxes.funcs func_index)) root.there.standing
        ∙ (ap (λ (f : Option Func). count_at (Some root.standing) f (slice_get boxes.funcs func_index)) root.func_is
        ∙ (ap (λ (b : Option (Option SourceBox)). count_at (Some root.standing) (Some func) b) root.box_is
        ∙ ap (λ (p : ComputeLevel). phases_of p func (Some own)) root.placed_is))

    lowered-long : (count : ℕ) (made : List Phase) → AreLowered pipeline schedule boxes count made → length made ≡ total count at_place
    lowered-long _ _ No_func = refl
    lowered-long _ made (Passed func_index _ before none) =
        let rest = lowered-long func_index made before in
        let zero_here = passed-by func_index none in
        let next = total-next func_index at_place in
        omega (arith, rest, zero_here, next)
    lowered-long _ made (Computed func_index before _ func plan own earlier root stages) =
        let rest = lowered-long func_index before earlier in
        let here = at-root func_index func plan own root in
        let long = stages-long func_index func plan own before (suc (length func.updates)) made stages in
        let next = total-next func_index at_place in
        omega (arith, rest, here, long, next)

    pub phases-counted : (made : List Phase) → AreLowered pipeline schedule boxes (length pipeline.funcs) made
        → phases schedule.standings pipeline.funcs boxes.funcs ≡ length made
    phases-counted made are =
        counted-all schedule.standings pipeline.funcs boxes.funcs (length pipeline.funcs) (omega arith) ∙ sym (lowered-long (length pipeline.funcs) made are)
