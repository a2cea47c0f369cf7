-- The runs of a stage are those of all iterations of its loops outside the innermost one.
use Rattle.std.proofs.Common.{◌≡◌, ℕ, zero, suc, ◌<◌, Bool, true, false, cond, List, [], ◌∷◌, ◌++◌, refl, sym, ap, subst, ◌∙◌, arith, inl, inr}
use Rattle.std.specs.Prelude.{◌||◌, nat_lt, ◌⊎◌, slice_index_or, Contains}
use Rattle.std.proofs.lemmas.Bool.{and_parts, ltb-true}
use Rattle.std.proofs.lemmas.List.Elements.{Contains-append_cases}
use mathlib.Core.Path.{fun_ext}
use Rattle.schedule_lines.specs.declared.stages.Loop.{Loop}
use Rattle.schedule_lines.specs.declared.stages.LoopId.{LoopId}
use Rattle.schedule_lines.specs.declared.stages.Stage.{Stage}
use Rattle.schedule_lines.specs.Directives.{same_id}
use Rattle.schedule_loops.specs.declared.extents.Extents.{Extents}
use Rattle.schedule_loops.specs.Visits as loops
use Rattle.schedule_loops.specs.Runs.{AreIterations, innermost, outside_innermost, is_among, iterations_of, run_of, runs, are_iterations}
use Rattle.schedule_loops.specs.Visits.{Visit, upto, nest, over_loops, visit_of, zeros}
use Rattle.schedule_loops.proofs.Ids.{cases_id, same_id-true, with_same, with_other}
use Rattle.lowering.specs.Runs.{IsRunOf, RunsAreListed}
use Rattle.lowering.proofs.LoopIterations.{contains_upto}

-- ---- iterations of some loops alone

-- one more of them is in an iteration
pub one_more : (stage_loop : Loop) (outside : List Loop) (iteration : ℕ) (iterations : loops.Values) → loops.with stage_loop.id iteration (iterations_of outside iterations)
    ≡ iterations_of (stage_loop ∷ outside) (loops.with stage_loop.id iteration iterations)
one_more stage_loop outside iteration iterations = fun_ext (λ id. by_test id (same_id id stage_loop.id))
  where
    by_test : (id : LoopId) (b : Bool) → cond b iteration (cond (is_among outside id) (iterations id) 0) ≡ cond (b || is_among outside id) (cond b iteration (iterations id)) 0
    by_test id true = refl
    by_test id false = refl

-- where it is in its iteration already
own_iteration : (stage_loop : Loop) (outside : List Loop) (iterations : loops.Values) → loops.with stage_loop.id (iterations stage_loop.id) (iterations_of outside iterations)
    ≡ iterations_of (stage_loop ∷ outside) iterations
own_iteration stage_loop outside iterations = fun_ext (λ id. elim (cases_id id stage_loop.id) [
  | inl e ↦ by_same id e (same_id id stage_loop.id)
  | inr d ↦ by_other id (same_id id stage_loop.id) d
])
  where
    by_same : (id : LoopId) → id ≡ stage_loop.id → (b : Bool) → cond b (iterations stage_loop.id) (cond (is_among outside id) (iterations id) 0) ≡ cond (b || is_among outside id)
        (iterations id) 0
    by_same id e true = ap iterations (sym e)
    by_same id e false = refl

    by_other : (id : LoopId) (b : Bool) → b ≡ false → cond b (iterations stage_loop.id) (cond (is_among outside id) (iterations id) 0) ≡ cond (b || is_among outside id)
        (iterations id) 0
    by_other id true f = absurd cc
    by_other id false f = refl

pub twice : (stage_loops : List Loop) (iterations : loops.Values) → iterations_of stage_loops (iterations_of stage_loops iterations) ≡ iterations_of stage_loops iterations
twice stage_loops iterations = fun_ext (λ id. by_test id (is_among stage_loops id))
  where
    by_test : (id : LoopId) (b : Bool) → cond b (cond b (iterations id) 0) 0 ≡ cond b (iterations id) 0
    by_test id true = refl
    by_test id false = refl

pub none_begun : (iterations : loops.Values) → zeros ≡ iterations_of [] iterations
none_begun iterations = refl

-- ---- lists

-- an element of what iterations list is listed by one of them
record Listed {A : Type 0} (x : A) (n : ℕ) (f : ℕ → List A) : Type 0 where
  iteration : ℕ
  below : iteration < n
  there : Contains (f iteration) x

listed_upto : {A : Type 0} (x : A) (n : ℕ) (f : ℕ → List A) → Contains (upto n f) x → Listed x n f
unfolding upto
listed_upto x zero f there = absurd (omega (arith, there.1))
listed_upto x (suc n) f there = elim (Contains-append_cases (upto n f) (f n) x there) [
  | inl here ↦ let l = listed_upto x n f here in let b = l.below in record { iteration = l.iteration; below = omega (arith, b); there = l.there }
  | inr here ↦ record { iteration = n; below = omega arith; there = here }
]

iterations_hold : (counts : loops.Values) (stage_loops : List Loop) (iterations : loops.Values) → are_iterations counts stage_loops iterations ≡ true → AreIterations counts stage_loops iterations
iterations_hold counts [] iterations e = tt
iterations_hold counts (stage_loops ∷ others) iterations e =
    let both = and_parts (nat_lt (iterations stage_loops.id) (counts stage_loops.id))
    (are_iterations counts others iterations) e in (
      ltb-true (iterations stage_loops.id) (counts stage_loops.id) both.0,
      iterations_hold counts others iterations
          both.1,
    )

-- ---- from no loop begun, through all iterations of loops

given : {A : Type 0} (x : A) (counts : loops.Values) (stage_loops : List Loop) (body : loops.Values → List A) (iterations : loops.Values) → AreIterations counts stage_loops iterations
    → Contains (body (iterations_of stage_loops iterations)) x → Contains (nest counts stage_loops body zeros) x
given x counts [] body iterations are there = subst (λ (t : loops.Values). Contains (body t) x) (sym (none_begun iterations)) there
given {A} x counts (first ∷ outside) body iterations are there =
    let list : loops.Values → List A = λ outer. upto (counts first.id) (λ iteration. body (loops.with first.id iteration outer)) in
    given x counts outside list iterations are.1
    (contains_upto x (counts first.id) (iterations first.id) (λ iteration. body (loops.with first.id iteration (iterations_of outside iterations))) are.0
    (subst (λ (t : loops.Values). Contains (body t) x) (sym (own_iteration first outside iterations)) there))

-- and back
record Taken {A : Type 0} (x : A) (counts : loops.Values) (stage_loops : List Loop) (body : loops.Values → List A) : Type 0 where
  iterations : loops.Values
  are : AreIterations counts stage_loops iterations
  there : Contains (body (iterations_of stage_loops iterations)) x

iterations_with : (counts : loops.Values) (first : Loop) (iteration : ℕ) → iteration < counts first.id → (stage_loops : List Loop) (iterations : loops.Values) → AreIterations counts stage_loops iterations
    → AreIterations counts stage_loops (loops.with first.id iteration iterations)
iterations_with counts first iteration below [] iterations are = tt
iterations_with counts first iteration below (stage_loops ∷ others) iterations are = (by_id, iterations_with counts first iteration below others iterations are.1)
  where
    by_id : loops.with first.id iteration iterations stage_loops.id < counts stage_loops.id
    by_id = elim (cases_id stage_loops.id first.id) [
      | inl e ↦ subst (λ (id : LoopId). loops.with first.id iteration iterations id < counts id) (sym e) (subst (λ (n : ℕ). n < counts first.id)
          (sym (with_same first.id iteration iterations)) below)
      | inr d ↦ subst (λ (n : ℕ). n < counts stage_loops.id) (sym
          (with_other first.id iteration iterations stage_loops.id d)) are.0
    ]

taken : {A : Type 0} (x : A) (counts : loops.Values) (stage_loops : List Loop) (body : loops.Values → List A) → Contains (nest counts stage_loops body zeros) x
    → Taken x counts stage_loops body
taken x counts [] body there = record { iterations = zeros; are = tt; there = subst (λ (t : loops.Values). Contains (body t) x) (none_begun zeros) there }
taken {A} x counts (first ∷ outside) body there =
    let list : loops.Values → List A = λ outer. upto (counts first.id) (λ iteration. body (loops.with first.id iteration outer)) in
    let outer = taken x counts outside list there in
    let inner = listed_upto x (counts first.id) (λ iteration. body (loops.with first.id iteration (iterations_of outside outer.iterations))) outer.there in
    record {
      iterations = loops.with first.id inner.iteration outer.iterations;
      are = (
        subst (λ (n : ℕ). n < counts first.id) (sym (with_same first.id inner.iteration outer.iterations)) inner.below,
        iterations_with counts first inner.iteration
            inner.below outside outer.iterations outer.are,
      );
      there = subst (λ (t : loops.Values). Contains (body t) x) (one_more first outside inner.iteration outer.iterations) inner.there;
    }

-- ---- runs

only_one : {A : Type 0} (x y : A) → Contains (y ∷ []) x → x ≡ y
only_one x y there = by_place there.0 there.1 there.2
  where
    by_place : (k : ℕ) → k < 1 → slice_index_or (y ∷ []) k x ≡ x → x ≡ y
    by_place zero l e = sym e
    by_place (suc k) l e = absurd (omega (arith, l))

module _ (extents : Extents) (stage : Stage) where
  abbrev counts : loops.Values
  counts = loops.counts extents stage.splits

  abbrev outside : List Loop
  outside = outside_innermost stage.loops

  abbrev body : loops.Values → List (List Visit)
  body iterations = run_of extents stage iterations ∷ []

  abbrev visits_at : loops.Values → List Visit
  visits_at iterations = nest counts (innermost stage.loops) (over_loops extents stage.splits (λ whole. visit_of extents whole ∷ [])) iterations

  same_run : (iterations : loops.Values) → run_of extents stage (iterations_of outside iterations) ≡ run_of extents stage iterations
  same_run iterations = ap visits_at (twice outside iterations)

  pub run_given : (iterations : loops.Values) → are_iterations counts outside iterations ≡ true → Contains (runs extents stage) (run_of extents stage iterations)
  run_given iterations are =
      given (run_of extents stage iterations) counts outside body iterations (iterations_hold counts outside iterations are)
      (0, omega arith, same_run iterations)

  pub run_found : (visits : List Visit) → Contains (runs extents stage) visits → IsRunOf extents stage visits
  run_found visits there =
      let t = taken visits counts outside body there in
      record { iterations = t.iterations; are = t.are; is = only_one visits (run_of extents stage (iterations_of outside t.iterations)) t.there ∙ same_run t.iterations }

pub runs_are_listed : RunsAreListed
runs_are_listed extents stage = (run_given extents stage, run_found extents stage)
