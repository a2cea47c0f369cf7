-- The layout has control words for each phase.
use Rattle.std.proofs.Common.{◌≡◌, ℕ, zero, suc, ◌+◌, ◌≤◌, List, [], ◌∷◌, ◌++◌, length, Option, Some, refl, ap, ◌∙◌, arith}
use Rattle.std.specs.Prelude.{slice_get}
use Rattle.halide_pipeline.specs.declared.definitions.Func.{Func}
use Rattle.halide_pipeline.specs.Pipelines.{Pipeline}
use Rattle.schedule.specs.declared.plans.FuncPlan.{FuncPlan}
use Rattle.schedule.specs.declared.schedules.Schedule.{Schedule}
use Rattle.schedule.specs.declared.placements.FuncPlacement.{FuncPlacement}
use Rattle.bounds.specs.declared.boxes.SourceBox.{SourceBox}
use Rattle.bounds.specs.declared.verdict.Boxes.{Boxes}
use Rattle.bounds.specs.Layout.{phases_of, phases}
use Rattle.loop_ir.specs.declared.statements.Phase.{Phase}
use Rattle.lowering.specs.Lowered.{ArePhasesOf, None_yet, One_more, AreLowered, No_func, Passed, Computed}

-- one more after
pub length_behind : {A : Type 0} (xs : List A) (x : A) → length (xs ++ x ∷ []) ≡ suc (length xs)
length_behind [] x = refl
length_behind (y ∷ xs) x = ap suc (length_behind xs x)

-- ---- the phases of the first this many Funcs

phases_to : ℕ → List FuncPlacement → List Func → List (Option SourceBox) → ℕ
phases_to zero standings funcs boxes = 0
phases_to (suc n) [] funcs boxes = 0
phases_to (suc n) (standing ∷ standings) [] boxes = 0
phases_to (suc n) (standing ∷ standings) (func ∷ funcs) [] = 0
phases_to (suc n) (standing ∷ standings) (func ∷ funcs) (own ∷ boxes) = phases_of standing.place func own + phases_to n standings funcs boxes

all_of : (n : ℕ) (standings : List FuncPlacement) (funcs : List Func) (boxes : List (Option SourceBox))
    → phases_to n standings funcs boxes ≤ phases standings funcs boxes
unfolding phases_to
all_of zero standings funcs boxes = omega arith
all_of (suc n) [] funcs boxes = omega arith
all_of (suc n) (standing ∷ standings) [] boxes = omega arith
all_of (suc n) (standing ∷ standings) (func ∷ funcs) [] = omega arith
all_of (suc n) (standing ∷ standings) (func ∷ funcs) (own ∷ boxes) = let l = all_of n standings funcs boxes in omega (arith, l)

one_to : (n : ℕ) (standings : List FuncPlacement) (funcs : List Func) (boxes : List (Option SourceBox))
    → phases_to n standings funcs boxes ≤ phases_to (suc n) standings funcs boxes
unfolding phases_to
one_to zero standings funcs boxes = omega arith
one_to (suc n) [] funcs boxes = omega arith
one_to (suc n) (standing ∷ standings) [] boxes = omega arith
one_to (suc n) (standing ∷ standings) (func ∷ funcs) [] = omega arith
one_to (suc n) (standing ∷ standings) (func ∷ funcs) (own ∷ boxes) = let l = one_to n standings funcs boxes in omega (arith, l)

more_to : (n : ℕ) (standings : List FuncPlacement) (funcs : List Func) (boxes : List (Option SourceBox)) (standing : FuncPlacement) (func : Func) (own : Option SourceBox)
    → slice_get standings n ≡ Some standing → slice_get funcs n ≡ Some func → slice_get boxes n ≡ Some own
    → phases_to n standings funcs boxes + phases_of standing.place func own ≤ phases_to (suc n) standings funcs boxes
unfolding phases_to
more_to n [] funcs boxes standing func own s f b = absurd cc
more_to n (first ∷ standings) [] boxes standing func own s f b = absurd cc
more_to n (first ∷ standings) (other ∷ funcs) [] standing func own s f b = absurd cc
more_to zero (first ∷ standings) (other ∷ funcs) (box ∷ boxes) standing func own s f b =
    let same_standing : first ≡ standing = cc in
    let same_func : other ≡ func = cc in
    let same_box : box ≡ own = cc in
    let q : phases_of first.place other box ≡ phases_of standing.place func own =
    ap (λ (t : FuncPlacement). phases_of t.place other box) same_standing ∙ (ap (λ (g : Func). phases_of standing.place g box) same_func
    ∙ ap (phases_of standing.place func) same_box) in
    omega (arith, q)
more_to (suc n) (first ∷ standings) (other ∷ funcs) (box ∷ boxes) standing func own s f b = let l = more_to n standings funcs boxes standing func own s f b in
    omega (arith, l)

module _ (pipeline : Pipeline) (schedule : Schedule) (boxes : Boxes) where
  abbrev to : ℕ → ℕ
  to count = phases_to count schedule.standings pipeline.funcs boxes.funcs

  stages_count : (place : ℕ) (func : Func) (plan : FuncPlan) (own : SourceBox) (others phases : List Phase) (number : ℕ)
      → ArePhasesOf pipeline schedule boxes place func plan own others number phases
      → length phases ≡ length others + number
  stages_count place func plan own others _ _ None_yet = omega arith
  stages_count place func plan own others _ _ (One_more number phases phase rest one) =
      let e = stages_count place func plan own others phases number rest in
      let f = length_behind phases phase in
      omega (arith, e, f)

  counted : (count : ℕ) (phases : List Phase) → AreLowered pipeline schedule boxes count phases → length phases ≤ to count
  counted _ _ No_func = omega arith
  counted _ _ (Passed place phases rest not_root) =
      let l = counted place phases rest in
      let m = one_to place schedule.standings pipeline.funcs boxes.funcs in
      omega (arith, l, m)
  counted _ _ (Computed place before phases func plan own rest at stages) =
      let l = counted place before rest in
      let e = stages_count place func plan own before phases (suc (length func.updates)) stages in
      let m = more_to place schedule.standings pipeline.funcs boxes.funcs at.standing func (Some own) at.there.standing at.func_is at.box_is in
      let s : phases_of at.standing.place func (Some own) ≡ length func.updates + 1 = ap (λ p. phases_of p func (Some own)) at.placed_is in
      omega (arith, l, e, m, s)

  pub all_counted : (count : ℕ) (list : List Phase) → AreLowered pipeline schedule boxes count list
      → length list ≤ phases schedule.standings pipeline.funcs boxes.funcs
  all_counted count list are = let l = counted count list are in let m = all_of count schedule.standings pipeline.funcs boxes.funcs in omega (arith, l, m)
