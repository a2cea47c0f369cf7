-- Iterations write apart, where the left side names points apart of slices apart.
use Rattle.std.proofs.Common.{◌≡◌, ◌≢◌, ℕ, zero, suc, ◌<◌, Bool, true, false, cond, List, [], ◌∷◌, ◌++◌, length, map, Option, refl, sym, subst, ◌∙◌, arith, inl}
use Rattle.std.proofs.Common.{inr}
use Rattle.std.specs.Prelude.{Contains, slice_index_or}
use Rattle.std.specs.List.{AllByRecursion}
use Rattle.std.proofs.lemmas.Bool.{cases_eq, eq-eqb}
use Rattle.halide_pipeline.specs.declared.definitions.Func.{Func}
use Rattle.halide_pipeline.specs.declared.definitions.Update.{Update}
use Rattle.schedule_lines.specs.declared.stages.Stage.{Stage}
use Rattle.schedule_loops.specs.declared.extents.Extents.{Extents}
use Rattle.schedule_loops.specs.Visits.{iteration_count, visits_in, points_written, HasOwner, upto, Visit, is_slice, slice}
use Rattle.schedule_loops.specs.Stages.{IsStageOf, KeepsRules, IsVisitOf}
use Rattle.schedule_loops.proofs.Slices.{visits_within}
use Rattle.schedule_loops.proofs.Parallel.{all_iterations, slice_owner}

-- ---- what all iterations list, each does

all_left : {A : Type 0} (P : A → Type 0) (xs ys : List A) → AllByRecursion P (xs ++ ys) → AllByRecursion P xs
all_left P [] ys all = tt
all_left P (x ∷ xs) ys all = (all.0, all_left P xs ys all.1)

all_right : {A : Type 0} (P : A → Type 0) (xs ys : List A) → AllByRecursion P (xs ++ ys) → AllByRecursion P ys
all_right P [] ys all = all
all_right P (x ∷ xs) ys all = all_right P xs ys all.1

all_of_iteration : {A : Type 0} (P : A → Type 0) (n : ℕ) (f : ℕ → List A) → AllByRecursion P (upto n f) → (v : ℕ) → v < n → AllByRecursion P (f v)
unfolding upto
all_of_iteration P zero f all v l = absurd (omega arith)
all_of_iteration P (suc n) f all v l = elim (cases_eq v n) [
  | inl e ↦ subst (λ (k : ℕ). AllByRecursion P (f k)) (sym e) (all_right P (upto n f) (f n) all)
  | inr d ↦ all_of_iteration P n f (all_left P (upto n f) (f n) all) v (omega (arith, d))
]

-- ---- the visit after a point

module _ (P : Visit → Type 0) (left : Visit → ℕ × ℕ) (point : ℕ × ℕ) where
  pub record Behind (visits : List Visit) : Type 0 where
    pub visit : Visit
    pub holds : P visit
    pub left_is : left visit ≡ point
    pub listed : slice visit.x visit.y visits ≢ []

  first_listed : (visit : Visit) (visits : List Visit) → slice visit.x visit.y (visit ∷ visits) ≢ []
  first_listed visit visits e =
      let here : slice visit.x visit.y (visit ∷ visits) ≡ visit ∷ slice visit.x visit.y visits = rw (eq-eqb visit.x visit.x refl, eq-eqb visit.y visit.y refl)
      refl in
      let wrong : visit ∷ slice visit.x visit.y visits ≡ [] = sym here ∙ e in
      cc

  later_at : (test : Bool) (first : Visit) (visits : List Visit) → visits ≢ [] → cond test (first ∷ visits) visits ≢ []
  later_at true first visits some e = cc
  later_at false first visits some e = some e

  pub behind : (visits : List Visit) (k : ℕ) → k < length (map left visits) → slice_index_or (map left visits) k point ≡ point → AllByRecursion P visits
      → Behind visits
  behind [] k l e all = absurd (omega arith)
  behind (visit ∷ visits) zero l e all = record { visit = visit; holds = all.0; left_is = e; listed = first_listed visit visits }
  behind (visit ∷ visits) (suc k) l e all =
      let b = behind visits k (omega arith) e all.1 in
      record {
        visit = b.visit;
        holds = b.holds;
        left_is = b.left_is;
        listed = later_at (is_slice b.visit.x b.visit.y visit) visit (slice b.visit.x b.visit.y
            visits) b.listed;
      }

module _ (func : Func) (update : Option Update) (extents : Extents) (stage : Stage) (is : IsStageOf func update stage) (rules : KeepsRules stage) (left : Visit
    → ℕ × ℕ)
    (apart : (one other : Visit) → IsVisitOf func update extents one → IsVisitOf func update extents other → left one ≡ left other
    → (one.x ≡ other.x) × (one.y ≡ other.y)) where
  within : (number : ℕ) → number < iteration_count extents stage → AllByRecursion (IsVisitOf func update extents) (visits_in extents stage number)
  within number l =
      all_of_iteration (IsVisitOf func update extents) (iteration_count extents stage) (visits_in extents stage)
      (subst (AllByRecursion (IsVisitOf func update extents)) (all_iterations func update extents stage is rules) (visits_within func update extents stage is))
      number l

  found : (number : ℕ) → number < iteration_count extents stage → (point : ℕ × ℕ) → Contains (points_written left extents stage number) point
      → Behind (IsVisitOf func update extents) left point (visits_in extents stage number)
  found number l point there = behind (IsVisitOf func update extents) left point (visits_in extents stage number) there.0 there.1 there.2 (within number l)

  owned : (x y number : ℕ) → number < iteration_count extents stage → slice x y (visits_in extents stage number) ≢ []
      → (o : HasOwner (iteration_count extents stage) (visits_in extents stage) x y) → number ≡ o.owner
  owned x y number l some o = elim (cases_eq number o.owner) [ inl e ↦ e | inr d ↦ absurd (some (o.no_other number l d)) ]

  pub written_apart : (first second : ℕ) → first < iteration_count extents stage → second < iteration_count extents stage → (point : ℕ × ℕ)
      → Contains (points_written left extents stage first) point → Contains (points_written left extents stage second) point → first ≡ second
  written_apart first second lf ls point in_first in_second =
      let f = found first lf point in_first in
      let s = found second ls point in_second in
      let same = apart f.visit s.visit f.holds s.holds (f.left_is ∙ sym s.left_is) in
      let o = slice_owner func update extents stage is rules f.visit.x f.visit.y f.holds.slice in
      let there : slice f.visit.x f.visit.y (visits_in extents stage second) ≢ [] =
      subst (λ (n : ℕ). slice n f.visit.y (visits_in extents stage second) ≢ []) (sym same.0)
      (subst (λ (n : ℕ). slice s.visit.x n (visits_in extents stage second) ≢ []) (sym same.1) s.listed) in
      owned f.visit.x f.visit.y first lf f.listed o ∙ sym (owned f.visit.x f.visit.y second ls there o)
