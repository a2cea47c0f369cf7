-- Slices and reduction points of a stage, and that nothing else is visited.
use Rattle.std.proofs.Common.{◌≡◌, ℕ, suc, ◌+◌, ◌*◌, ◌<◌, ◌≤◌, Bool, true, false, not, cond, List, [], ◌∷◌, Option, Some, None, refl, ap, ◌∙◌, arith, ◌⊎◌, inl}
use Rattle.std.proofs.Common.{inr}
use Rattle.std.specs.Prelude.{◌&&◌, nat_lt, filter}
use Rattle.std.specs.List.{AllByRecursion}
use Rattle.std.proofs.lemmas.Bool.{lt-ltb, ltb-true, and_parts}
use Rattle.std.proofs.Math.Nat.{mul-le-mul_right}
use Rattle.halide_pipeline.specs.declared.definitions.Func.{Func}
use Rattle.halide_pipeline.specs.declared.definitions.Update.{Update}
use Rattle.halide_pipeline.specs.declared.expressions.Variable.{Variable}
use Rattle.halide_pipeline.specs.declared.expressions.Variable.TheVariants as variables
use Rattle.schedule_lines.specs.declared.stages.Loop.{Loop}
use Rattle.schedule_lines.specs.declared.stages.LoopId.TheVariants as ids
use Rattle.schedule_lines.specs.declared.stages.Split.{Split}
use Rattle.schedule_lines.specs.declared.stages.Stage.{Stage}
use Rattle.schedule_lines.specs.Making.{IsMade}
use Rattle.schedule.specs.Plans.{with_loop, with_second}
use Rattle.schedule_loops.specs.declared.extents.Extents.{Extents}
use Rattle.schedule_loops.specs.Visits.{Values, with, whole_counts, counts_from, upto, nest, split_bodies, zeros, Visit, visit_of, visits}
use Rattle.schedule_loops.specs.Stages.{has_variable, first_loops, extent_in, points_of, is_slice_of, IsStageOf, IsVisitOf}
use Rattle.schedule_loops.proofs.Iterations.{upto_none}
use Rattle.schedule_loops.proofs.Nesting.{InRange, nest_same, filter-nest}
use Rattle.schedule_loops.proofs.Making.{by_making}
use Rattle.schedule_loops.proofs.Order.{Quiet, quiet_stays}
use Rattle.schedule_loops.proofs.FirstLoops.{Plain, sound, there, plain, update_start}
use Rattle.schedule_loops.proofs.Resting.{in_place, seen, visit_seen, leaves, bodies_rest, nest_rests, SameAtRest}
use Rattle.schedule_loops.proofs.Starts.{IsSlice, is_loop_invariant, invariant_passed_on}

-- ---- extents of variables

-- how many values a variable takes that loops are over, or not
abbrev pub extent_if : Bool → ℕ → ℕ
extent_if has extent = cond has extent 1

pub below_if : (has : Bool) (extent x : ℕ) → x < extent_if has extent → has ≡ true → x < extent
below_if true extent x l e = l
below_if false extent x l e = cc

pub none_if : (has : Bool) (extent x : ℕ) → x < extent_if has extent → has ≡ false → x ≡ 0
none_if true extent x l e = cc
none_if false extent x l e = omega arith

pub in_place_below : (has : Bool) (extent value : ℕ) → (has ≡ true → value < extent) → in_place has value < extent_if has extent
in_place_below true extent value l = l refl
in_place_below false extent value l = omega arith

module _ (func : Func) (update : Option Update) (extents : Extents) where
  abbrev start : List Loop
  start = first_loops func update

  abbrev takes : Variable → ℕ
  takes v = extent_in func update extents v

  pub slice_from : (x y : ℕ) → is_slice_of func update extents x y ≡ true → IsSlice start (whole_counts extents) x y
  slice_from x y e =
      let p = and_parts (nat_lt x (takes variables.FirstArgument)) (nat_lt y (takes variables.SecondArgument)) e in
      let lx : x < takes variables.FirstArgument = ltb-true x (takes variables.FirstArgument) p.0 in
      let ly : y < takes variables.SecondArgument = ltb-true y (takes variables.SecondArgument) p.1 in
      record {
        x_below = below_if (has_variable variables.FirstArgument start) extents.first_argument x lx;
        y_below = below_if (has_variable variables.SecondArgument start) extents.second_argument y ly;
        no_x = none_if (has_variable variables.FirstArgument start) extents.first_argument x lx;
        no_y = none_if (has_variable variables.SecondArgument start) extents.second_argument y ly;
      }

  -- ---- a visit of the first loops

  -- The second reduction variable is not alone.
  abbrev HasFirst : Type 0
  HasFirst = (has_variable variables.FirstReduction start ≡ true) ⊎ (has_variable variables.SecondReduction start ≡ false)

  number_below : (j n i e : ℕ) → j < n → i < e → j * e + i < n * e
  number_below j n i e lj li =
      let l : suc j ≤ n = omega arith in
      let m : suc j * e ≤ n * e = mul-le-mul_right e l in
      let s : suc j * e ≡ j * e + e = omega arith in
      omega arith

  numbered : (one two : Bool) (i j : ℕ) → (one ≡ true) ⊎ (two ≡ false) → (one ≡ true → i < extents.first_reduction)
      → (two ≡ true → j < extents.second_reduction)
      → in_place two j * extents.first_reduction + in_place one i < extent_if two extents.second_reduction * extent_if one extents.first_reduction
  numbered true true i j has li lj = number_below j extents.second_reduction i extents.first_reduction (lj refl) (li refl)
  numbered true false i j has li lj = number_below 0 1 i extents.first_reduction (omega arith) (li refl)
  numbered false true i j has li lj = elim has [ inl e ↦ absurd cc | inr e ↦ absurd cc ]
  numbered false false i j has li lj = let z : 0 * extents.first_reduction ≡ 0 = omega arith in omega arith

  pub is_visit : Plain start → HasFirst → (values : Values) → InRange (whole_counts extents) start values
      → IsVisitOf func update extents (seen start extents.first_reduction values)
  is_visit plain has values in_range =
      let below : (v : Variable) → has_variable v start ≡ true → values (ids.Whole v) < whole_counts extents (ids.Whole v) = λ v e. in_range (ids.Whole v)
      (there v start plain e) in
      let first = has_variable variables.FirstArgument start in
      let second = has_variable variables.SecondArgument start in
      let lx : in_place (has_variable variables.FirstArgument start) (values (ids.Whole variables.FirstArgument)) < takes variables.FirstArgument =
      in_place_below (has_variable variables.FirstArgument start) extents.first_argument (values (ids.Whole variables.FirstArgument))
      (below variables.FirstArgument) in
      let ly : in_place (has_variable variables.SecondArgument start) (values (ids.Whole variables.SecondArgument)) < takes variables.SecondArgument =
      in_place_below (has_variable variables.SecondArgument start) extents.second_argument (values (ids.Whole variables.SecondArgument))
      (below variables.SecondArgument) in
      record {
        slice = rw (
          lt-ltb (in_place (has_variable variables.FirstArgument start) (values (ids.Whole variables.FirstArgument))) (takes variables.FirstArgument) lx,
          lt-ltb (in_place (has_variable variables.SecondArgument start) (values (ids.Whole variables.SecondArgument))) (takes variables.SecondArgument) ly,
        ) refl;
        number = numbered (has_variable variables.FirstReduction start) (has_variable variables.SecondReduction start)
            (values (ids.Whole variables.FirstReduction)) (values (ids.Whole variables.SecondReduction)) has
            (below variables.FirstReduction) (below variables.SecondReduction);
      }

  -- a test of the same
  abbrev pub passes : Visit → Bool
  passes visit = is_slice_of func update extents visit.x visit.y && nat_lt visit.number (points_of func update extents)

  pub passes_from : (visit : Visit) → IsVisitOf func update extents visit → passes visit ≡ true
  passes_from visit is = rw (is.slice, lt-ltb visit.number (points_of func update extents) is.number) refl

  pub from_passes : (visit : Visit) → passes visit ≡ true → IsVisitOf func update extents visit
  from_passes visit e =
      let p = and_parts (is_slice_of func update extents visit.x visit.y) (nat_lt visit.number (points_of func update extents)) e in
      record { slice = p.0; number = ltb-true visit.number (points_of func update extents) p.1 }

-- a pure definition has no loop over a reduction variable
no_reduction_at : (first : List ℕ) (second : Option (List ℕ))
    → (has_variable variables.FirstReduction (with_second (with_loop [] first variables.FirstArgument) second variables.SecondArgument) ≡ false)
    × (has_variable variables.SecondReduction (with_second (with_loop [] first variables.FirstArgument) second variables.SecondArgument) ≡ false)
no_reduction_at first None = (refl, refl)
no_reduction_at first (Some name) = (refl, refl)

pub no_first_reduction : (func : Func) → has_variable variables.FirstReduction (first_loops func None) ≡ false
no_first_reduction func = (no_reduction_at func.first_argument func.second_argument).0

pub no_second_reduction : (func : Func) → has_variable variables.SecondReduction (first_loops func None) ≡ false
no_second_reduction func = (no_reduction_at func.first_argument func.second_argument).1

pub reductions_there : (func : Func) (update : Option Update) → (has_variable variables.FirstReduction (first_loops func update) ≡ true)
    ⊎ (has_variable variables.SecondReduction (first_loops func update) ≡ false)
reductions_there func None = inr (no_second_reduction func)
reductions_there func (Some update) = inl (update_start func update).one

-- ---- what a nest never keeps

abbrev pub nothing : {A : Type 0} → Values → List A
nothing values = []

nest_empty : {A : Type 0} (counts : Values) (loops : List Loop) (values : Values) → nest {A = A} counts loops nothing values ≡ []
nest_empty counts [] values = refl
nest_empty {A} counts (own ∷ outside) values =
    nest_same counts outside (λ outer. upto (counts own.id) (λ iteration. nothing {A = A} (with own.id iteration outer))) (nothing {A = A}) (λ outer in_range. upto_none
    (counts own.id) (λ iteration. nothing {A = A} (with own.id iteration outer)) (λ iteration l. refl)) values
    ∙ nest_empty {A = A} counts outside values

pub nest_quiet : {A : Type 0} (extents : Values) (seen : Values → A) (keep : A → Bool) (loops : List Loop) (splits : List Split)
    → Quiet A extents seen keep loops splits → (values : Values)
    → filter keep (nest (counts_from extents 0 splits) loops (split_bodies extents 0 splits (λ v. seen v ∷ [])) values) ≡ []
nest_quiet {A} extents seen keep loops splits quiet values =
    filter-nest keep (counts_from extents 0 splits) loops (split_bodies extents 0 splits (λ v. seen v ∷ [])) values
    ∙ nest_same (counts_from extents 0 splits) loops (λ v. filter keep (split_bodies extents 0 splits (λ v. seen v ∷ []) v)) (nothing {A = A}) quiet.none values
    ∙ nest_empty {A = A} (counts_from extents 0 splits) loops values

all_at : {A : Type 0} (P : A → Type 0) (passes : A → Bool) → ((x : A) → passes x ≡ true → P x) → (x : A) (xs : List A) (test : Bool) → passes x ≡ test
    → (filter (λ y. not (passes y)) xs ≡ [] → AllByRecursion P xs) → cond (not test) (x ∷ filter (λ y. not (passes y)) xs) (filter (λ y. not (passes y)) xs)
    ≡ [] → AllByRecursion P (x ∷ xs)
all_at P passes holds x xs true e later none = (holds x e, later none)
all_at P passes holds x xs false e later none = cc

-- where nothing is kept that fails a test, all pass it
pub all_pass : {A : Type 0} (P : A → Type 0) (passes : A → Bool) → ((x : A) → passes x ≡ true → P x) → (xs : List A) → filter (λ y. not (passes y)) xs ≡ []
    → AllByRecursion P xs
all_pass P passes holds [] none = tt
all_pass P passes holds (x ∷ xs) none = all_at P passes holds x xs (passes x) refl (all_pass P passes holds xs) none

fails_not : {A : Type 0} (passes : A → Bool) (x : A) → passes x ≡ true → filter (λ y. not (passes y)) (x ∷ []) ≡ []
fails_not passes x e = rw e refl

-- what holds of each visit of the first loops holds of those of a stage
pub quiet_from : {A : Type 0} (extents : Values) (seen : Values → A) (passes : A → Bool) (start : List Loop) → Plain start
    → ((values : Values) → InRange extents start values → passes (seen values) ≡ true)
    → {is_update : Bool} {loops : List Loop} {splits : List Split} → IsMade is_update start loops splits
    → Quiet A extents seen (λ y. not (passes y)) loops splits
quiet_from {A} extents seen passes start plain holds {is_update} made =
    by_making (Quiet A extents seen (λ y. not (passes y)))
    (quiet_stays A extents seen (λ y. not (passes y)) is_update is_loop_invariant start (invariant_passed_on is_update)
    (record { sound = sound start plain; none = λ values in_range. fails_not passes (seen values) (holds values in_range) }))
    made

-- ---- visits of a stage, in the words of its first loops

-- where no loop has begun, all variables are 0
pub zeros_rest : (first : List Loop) (v : Variable) → has_variable v first ≡ false → zeros (ids.Whole v) ≡ 0
zeros_rest first v none = refl

pub leaf_rests : (extents : Extents) (start : List Loop)
    → SameAtRest start (λ values. visit_of extents values ∷ []) (λ values. seen start extents.first_reduction values ∷ [])
leaf_rests extents start values rests = ap (λ (v : Visit). v ∷ []) (visit_seen extents start values rests)

pub visits_seen : (func : Func) (update : Option Update) (extents : Extents) (stage : Stage) → IsStageOf func update stage
    → visits extents stage ≡ nest (counts_from (whole_counts extents) 0 stage.splits) stage.loops (split_bodies (whole_counts extents) 0 stage.splits
    (λ v. seen (first_loops func update) extents.first_reduction v ∷ [])) zeros
visits_seen func update extents stage is =
    let start = first_loops func update in
    let l = leaves (plain func update) is.made in
    nest_rests start (counts_from (whole_counts extents) 0 stage.splits) stage.loops
    (split_bodies (whole_counts extents) 0 stage.splits (λ values. visit_of extents values ∷ [])) (split_bodies (whole_counts extents) 0 stage.splits
    (λ v. seen start extents.first_reduction v ∷ []))
    l.loops_apart
    (bodies_rest start stage.splits (whole_counts extents) 0 (λ values. visit_of extents values ∷ []) (λ v. seen start extents.first_reduction v ∷ [])
    l.splits_apart (leaf_rests extents start))
    zeros (zeros_rest start)

-- no visit fails the test
pub nothing_outside : (func : Func) (update : Option Update) (extents : Extents) (stage : Stage) → IsStageOf func update stage
    → filter (λ visit. not (passes func update extents visit)) (visits extents stage) ≡ []
nothing_outside func update extents stage is =
    let start = first_loops func update in
    let s = seen start extents.first_reduction in
    ap (filter (λ visit. not (passes func update extents visit))) (visits_seen func update extents stage is)
    ∙ nest_quiet (whole_counts extents) (seen (first_loops func update) extents.first_reduction) (λ visit. not (passes func update extents visit)) stage.loops
    stage.splits
    (quiet_from (whole_counts extents) (seen (first_loops func update) extents.first_reduction) (passes func update extents) (first_loops func update)
    (plain func update)
    (λ values in_range. passes_from func update extents (seen (first_loops func update) extents.first_reduction values) (is_visit func update extents
    (plain func update) (reductions_there func update) values in_range))
    is.made) zeros

-- Each visit is one of the slices and reduction points of the stage.
pub visits_within : (func : Func) (update : Option Update) (extents : Extents) (stage : Stage) → IsStageOf func update stage
    → AllByRecursion (IsVisitOf func update extents) (visits extents stage)
visits_within func update extents stage is =
    all_pass (IsVisitOf func update extents) (passes func update extents) (from_passes func update extents) (visits extents stage) (nothing_outside func update
    extents stage is)
