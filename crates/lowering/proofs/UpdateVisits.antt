-- What the loops of an update visit: all of a stage, and the tasks of one with a parallel loop.
use Rattle.std.proofs.Common.{◌≡◌, ℕ, zero, suc, ◌-◌, ◌<◌, ◌≤◌, Bool, true, false, cond, List, [], ◌∷◌, length, take, map, filter, Option, Some, None, refl}
use Rattle.std.proofs.Common.{sym, ap, subst, ◌∙◌, arith, inl, inr, true≢false}
use Rattle.std.specs.Prelude.{◌||◌, ◌==◌}
use Rattle.std.specs.List.{AllByRecursion, list_any}
use Rattle.std.proofs.lemmas.Bool.{and_parts, eqb-true, cases_eq}
use Rattle.halide_pipeline.specs.declared.definitions.Func.{Func}
use Rattle.halide_pipeline.specs.declared.definitions.Update.{Update}
use Rattle.schedule_lines.specs.declared.stages.Loop.{Loop}
use Rattle.schedule_lines.specs.declared.stages.Stage.{Stage}
use Rattle.schedule_loops.specs.declared.extents.Extents.{Extents}
use Rattle.schedule_loops.specs.Visits.{counts, Visit, nest, over_loops, zeros, visit_of, visits, slice, is_slice, rising, parallel, is_iteration_of, visits_in}
use Rattle.schedule_loops.specs.Visits.{iteration_count, count_of}
use Rattle.schedule_loops.specs.Visits as loops
use Rattle.schedule_loops.specs.Reach.{wholes}
use Rattle.schedule_loops.specs.Stages.{IsStageOf, KeepsRules, IsVisitOf, is_slice_of, points_of}
use Rattle.schedule_loops.proofs.Parallel.{outermost, iteration_visits, all_iterations, slice_owner}
use Rattle.schedule_loops.proofs.Rising.{slice_is}
use Rattle.schedule_loops.proofs.Slices.{visits_within}
use Rattle.schedule_loops.proofs.Iterations.{upto_one, filter-upto}
use Rattle.schedule_loops.proofs.Wholes.{visits_of_wholes}
use Rattle.loop_ir.specs.Counters.{no_values}
use Rattle.loop_ir.specs.Running.{task_values}
use Rattle.lowering_nests.specs.Nests.{loops_of}
use Rattle.lowering_nests.proofs.Repeating.{loops_with}
use Rattle.lowering.specs.PurePhases.{inside_of, counter_of}
use Rattle.lowering.proofs.Lists.{any_gives, none_kept, all_upto, before_last}

-- one that passes is kept
kept_some : {A : Type 0} (test : A → Bool) (xs : List A) → list_any test xs ≡ true → filter test xs ≡ [] → ⊥
kept_some test xs e none = true≢false (sym e ∙ none_kept test xs none)

module _ (func : Func) (update : Update) (extents : Extents) (stage : Stage) (stage_is : IsStageOf func (Some update) stage) (func_index : ℕ) where
  -- ---- all visits

  -- where no loop has begun
  pub all_listed : visits extents stage ≡ map (visit_of extents) (wholes extents stage.splits stage.loops zeros)
  all_listed = visits_of_wholes extents stage.splits stage.loops zeros

  pub all_in_order : (x y : ℕ) → is_slice_of func (Some update) extents x y ≡ true
      → slice x y (visits extents stage) ≡ rising x y 0 (points_of func (Some update) extents)
  all_in_order x y there = slice_is func update extents stage stage_is x y true there

  pub all_within : AllByRecursion (IsVisitOf func (Some update) extents) (visits extents stage)
  all_within = visits_within func (Some update) extents stage stage_is

  -- ---- tasks

  module _ (legal : KeepsRules stage) where
    pub listed : (stage_loop : Option Loop) → parallel stage ≡ stage_loop → (number : ℕ) → number < count_of (counts extents stage.splits) stage_loop
        → visits_in extents stage number ≡ map (visit_of extents) (wholes extents stage.splits (inside_of stage_loop stage.loops)
        (loops_of func_index (task_values (counter_of func_index stage_loop) number)))
    listed None is number l =
        let first : number ≡ 0 = omega (arith, l) in
        ap (visits_in extents stage) first
        ∙ ap (λ (p : Option Loop). nest (counts extents stage.splits) stage.loops (λ values. cond (is_iteration_of p 0 values) (over_loops extents stage.splits
        (λ whole. visit_of extents whole ∷ []) values) []) zeros) is
        ∙ visits_of_wholes extents stage.splits stage.loops zeros
    listed (Some own) is number l =
        let o = outermost stage own legal is in
        let iterations = loops.with own.id number zeros in
        let taken : take (length stage.loops - 1) stage.loops ≡ o.last.inside =
        ap (λ (ls : List Loop). take (length ls - 1) ls) o.last.loops_are ∙ before_last o.last.inside own in
        iteration_visits func (Some update) extents stage o.last.inside own stage_is o.last.loops_are is number l
        ∙ visits_of_wholes extents stage.splits o.last.inside iterations
        ∙ ap (λ (ls : List Loop). map (visit_of extents) (wholes extents stage.splits ls iterations)) (sym taken)
        ∙ ap (λ (t : loops.Values). map (visit_of extents) (wholes extents stage.splits (take (length stage.loops - 1) stage.loops) t))
        (sym (loops_with func_index own.id number no_values))

    pub task_within : (number : ℕ) → number < iteration_count extents stage
        → AllByRecursion (IsVisitOf func (Some update) extents) (visits_in extents stage number)
    task_within number l =
        all_upto (IsVisitOf func (Some update) extents) (visits_in extents stage) (iteration_count extents stage)
        (subst (λ (v : List Visit). AllByRecursion (IsVisitOf func (Some update) extents) v) (all_iterations func (Some update) extents stage stage_is legal)
        all_within) number l

    pub visited_slice : (number : ℕ) → number < iteration_count extents stage → (x y : ℕ) → list_any (is_slice x y) (visits_in extents stage number) ≡ true
        → is_slice_of func (Some update) extents x y ≡ true
    visited_slice number l x y e =
        any_gives (IsVisitOf func (Some update) extents) (is_slice_of func (Some update) extents x y ≡ true) (is_slice x y)
        (λ visit is here.
        let p = and_parts (visit.x == x) (visit.y == y) here in
        ap (λ (n : ℕ). is_slice_of func (Some update) extents n y) (sym (eqb-true visit.x x p.0))
        ∙ ap (λ (n : ℕ). is_slice_of func (Some update) extents visit.x n) (sym (eqb-true visit.y y p.1)) ∙ is.slice)
        (visits_in extents stage number) (task_within number l) e

    owner_is : (first owner x y : ℕ) → first < iteration_count extents stage → ((n : ℕ) → n < iteration_count extents stage → (n ≡ owner → ⊥)
        → slice x y (visits_in extents stage n) ≡ [])
        → list_any (is_slice x y) (visits_in extents stage first) ≡ true → first ≡ owner
    owner_is first owner x y l no_other e = elim (cases_eq first owner) [
      | inl same ↦ same
      | inr other ↦ absurd (kept_some (is_slice x y) (visits_in extents stage first) e (no_other first l other))
    ]

    pub one_task : (x y first second : ℕ) → first < iteration_count extents stage → second < iteration_count extents stage
        → list_any (is_slice x y) (visits_in extents stage first) ≡ true
        → list_any (is_slice x y) (visits_in extents stage second) ≡ true → first ≡ second
    one_task x y first second lf ls ef es =
        let h = slice_owner func (Some update) extents stage stage_is legal x y (visited_slice first lf x y ef) in
        owner_is first h.owner x y lf h.no_other ef ∙ sym (owner_is second h.owner x y ls h.no_other es)

    -- all slices of the owner
    slices_of_owner : (x y owner : ℕ) → owner < iteration_count extents stage → ((n : ℕ) → n < iteration_count extents stage → (n ≡ owner → ⊥)
        → slice x y (visits_in extents stage n) ≡ [])
        → slice x y (visits extents stage) ≡ slice x y (visits_in extents stage owner)
    slices_of_owner x y owner l no_other =
        ap (slice x y) (all_iterations func (Some update) extents stage stage_is legal)
        ∙ filter-upto (is_slice x y) (iteration_count extents stage) (visits_in extents stage)
        ∙ upto_one (iteration_count extents stage) owner (λ n. slice x y (visits_in extents stage n)) l no_other

    -- a slice that a task visits it visits in order
    pub task_in_order : (number : ℕ) → number < iteration_count extents stage → (x y : ℕ) → list_any (is_slice x y) (visits_in extents stage number) ≡ true
        → slice x y (visits_in extents stage number) ≡ rising x y 0 (points_of func (Some update) extents)
    task_in_order number l x y e =
        let there = visited_slice number l x y e in
        let h = slice_owner func (Some update) extents stage stage_is legal x y there in
        let own : number ≡ h.owner = owner_is number h.owner x y l h.no_other e in
        ap (λ (n : ℕ). slice x y (visits_in extents stage n)) own ∙ sym (slices_of_owner x y h.owner h.is_iteration h.no_other) ∙ all_in_order x y there

    -- a slice that is there and has points is visited by a task
    pub some_task : (x y : ℕ) → is_slice_of func (Some update) extents x y ≡ true → 1 ≤ points_of func (Some update) extents
        → ((number : ℕ) → number < iteration_count extents stage → list_any (is_slice x y) (visits_in extents stage number) ≡ false) → ⊥
    some_task x y there some none =
        let h = slice_owner func (Some update) extents stage stage_is legal x y there in
        let listed_so : slice x y (visits_in extents stage h.owner) ≡ rising x y 0 (points_of func (Some update) extents) =
        sym (slices_of_owner x y h.owner h.is_iteration h.no_other) ∙ all_in_order x y there in
        not_empty (points_of func (Some update) extents) some (sym listed_so ∙ empty_of (visits_in extents stage h.owner) (none h.owner h.is_iteration))
      where
        not_empty : (n : ℕ) → 1 ≤ n → rising x y 0 n ≡ [] → ⊥
        not_empty zero l e = omega (arith, l)
        not_empty (suc n) l e = cc

        empty_of : (xs : List Visit) → list_any (is_slice x y) xs ≡ false → filter (is_slice x y) xs ≡ []
        empty_of [] e = refl
        empty_of (v ∷ xs) e = by_test (is_slice x y v) e (empty_of xs)
          where
            by_test : (b : Bool) → (b || list_any (is_slice x y) xs) ≡ false → (list_any (is_slice x y) xs ≡ false → filter (is_slice x y) xs ≡ [])
                → cond b (v ∷ filter (is_slice x y) xs) (filter (is_slice x y) xs) ≡ []
            by_test true e later = absurd cc
            by_test false e later = later e
