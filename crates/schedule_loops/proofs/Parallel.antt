-- Iterations of the parallel loop are iterations of the outermost one.
use Rattle.std.proofs.Common.{◌≡◌, ◌≢◌, ℕ, ◌<◌, Bool, true, false, not, cond, List, [], ◌∷◌, ◌++◌, ◌==◌, Option, Some, None, refl, sym, ap, subst, ◌∙◌, arith}
use Rattle.std.proofs.Common.{inl, inr}
use Rattle.std.specs.Prelude.{◌&&◌, ◌||◌, is_some}
use Rattle.std.proofs.lemmas.Bool.{eq-eqb, ne_eqb, and_parts}
use Rattle.halide_pipeline.specs.declared.definitions.Func.{Func}
use Rattle.halide_pipeline.specs.declared.definitions.Update.{Update}
use Rattle.schedule_lines.specs.declared.stages.Loop.{Loop}
use Rattle.schedule_lines.specs.declared.stages.LoopId.{LoopId}
use Rattle.schedule_lines.specs.declared.stages.Mark.TheVariants as marks
use Rattle.schedule_lines.specs.declared.stages.Stage.{Stage}
use Rattle.schedule_lines.specs.Directives.{find_marked, is_marked, is_reduction}
use Rattle.schedule_lines.specs.Making.{total, IsMade}
use Rattle.schedule.specs.declared.legality.LoopRule.{LoopRule}
use Rattle.schedule.specs.declared.legality.LoopRule.TheVariants as rules_of
use Rattle.schedule.specs.Accepted.{keeps}
use Rattle.schedule.specs.Legal.{breaks, is_empty}
use Rattle.schedule_loops.specs.declared.extents.Extents.{Extents}
use Rattle.schedule_loops.specs.Visits.{Values, with, whole_counts, counts, upto, nest, split_bodies, over_loops, zeros, Visit, is_slice, slice, visit_of}
use Rattle.schedule_loops.specs.Visits.{visits, parallel, count_of, iteration_count, is_iteration_of, visits_in, in_order, IsOrder, HasOwner}
use Rattle.schedule_loops.specs.Stages.{first_loops, is_slice_of, IsStageOf, KeepsRules}
use Rattle.schedule_loops.proofs.Iterations.{upto_same, upto_one, upto_nil, first_iteration, filter-upto}
use Rattle.schedule_loops.proofs.Ids.{cases_id, with_same, with_other, swapped_id}
use Rattle.schedule_loops.proofs.Nesting.{has_id, has_same}
use Rattle.schedule_loops.proofs.Selecting.{is_free, Unique}
use Rattle.schedule_loops.proofs.Making.{total-append, by_making}
use Rattle.schedule_loops.proofs.Order.{Settled, settled_stays}
use Rattle.schedule_loops.proofs.Tasks.{nest_none, task, tasks_are, task_apart, any_order, any_order_none, among_own}
use Rattle.schedule_loops.proofs.FirstLoops.{plain, sound_made}
use Rattle.schedule_loops.proofs.Resting.{seen, leaves, bodies_rest, nest_rests, SameAtRest}
use Rattle.schedule_loops.proofs.Starts.{begins, slice_values, is_loop_invariant, invariant_passed_on, invariant_free}
use Rattle.schedule_loops.proofs.Slices.{slice_from, visits_seen, visits_within, leaf_rests, zeros_rest}
use Rattle.schedule_loops.proofs.Rising.{slice_away}

-- ---- a legal parallel loop is the outermost

pub record Last (stage_loop : Loop) (loops : List Loop) : Type 0 where
  pub inside : List Loop
  pub loops_are : loops ≡ inside ++ stage_loop ∷ []
  pub marked : is_marked marks.Parallel stage_loop ≡ true

empty_from : (outside : List Loop) → is_empty outside ≡ true → outside ≡ []
empty_from [] e = refl
empty_from (first ∷ others) e = cc

unbroken : (empty root : Bool) → not (true && (not empty || not root)) ≡ true → empty ≡ true
unbroken true root e = refl
unbroken false root e = cc

some_is : (first stage_loop : Loop) → Some first ≡ Some stage_loop → first ≡ stage_loop
some_is first stage_loop e = cc

last_at : (at_root inner : Bool) (first : Loop) (outside : List Loop) (stage_loop : Loop) (test : Bool) → is_marked marks.Parallel first ≡ test
    → not (test && (not (is_empty outside) || not at_root)) ≡ true → cond test (Some first) (find_marked marks.Parallel outside) ≡ Some stage_loop
    → (find_marked marks.Parallel outside ≡ Some stage_loop → Last stage_loop outside)
    → Last stage_loop (first ∷ outside)
last_at at_root inner first outside stage_loop true e kept found later =
    let same : first ≡ stage_loop = some_is first stage_loop found in
    let none : outside ≡ [] = empty_from outside (unbroken (is_empty outside) at_root kept) in
    record {
      inside = [];
      loops_are = ap (λ (l : Loop). l ∷ outside) same ∙ ap (λ (ls : List Loop). stage_loop ∷ ls) none;
      marked = ap (is_marked marks.Parallel)
          (sym same) ∙ e;
    }
last_at at_root inner first outside stage_loop false e kept found later =
    let l = later found in
    record { inside = first ∷ l.inside; loops_are = ap (λ (ls : List Loop). first ∷ ls) l.loops_are; marked = l.marked }

pub parallel_last : (at_root inner : Bool) (loops : List Loop) (stage_loop : Loop) → keeps rules_of.ParallelOutermost at_root inner loops ≡ true
    → find_marked marks.Parallel loops ≡ Some stage_loop → Last stage_loop loops
parallel_last at_root inner [] stage_loop kept found = cc
parallel_last at_root inner (first ∷ outside) stage_loop kept found =
    let p = and_parts (not (breaks rules_of.ParallelOutermost at_root inner (is_empty outside) first)) (keeps rules_of.ParallelOutermost at_root false outside)
    kept in
    last_at at_root inner first outside stage_loop (is_marked marks.Parallel first) refl p.0 found (parallel_last at_root false outside stage_loop p.1)

-- the last loop keeps a rule that doesn't ask where it is
kept_last : (rule : LoopRule) (at_root inner : Bool) (inside : List Loop) (stage_loop : Loop) (broken : Bool) → ((innermost outermost : Bool)
    → breaks rule at_root innermost outermost stage_loop ≡ broken)
    → keeps rule at_root inner (inside ++ stage_loop ∷ []) ≡ true → not broken ≡ true
kept_last rule at_root inner [] stage_loop broken same kept =
    ap not (sym (same inner true)) ∙ (and_parts (not (breaks rule at_root inner true stage_loop)) true kept).0
kept_last rule at_root inner (first ∷ inside) stage_loop broken same kept =
    kept_last rule at_root false inside stage_loop broken same (and_parts (not (breaks rule at_root inner (is_empty (inside ++ stage_loop ∷ [])) first))
    (keeps rule at_root false (inside ++ stage_loop ∷ [])) kept).1

over_argument : (at_root : Bool) (inside : List Loop) (stage_loop : Loop) → is_marked marks.Parallel stage_loop ≡ true
    → keeps rules_of.ParallelOverArgument at_root true (inside ++ stage_loop ∷ []) ≡ true → is_free stage_loop ≡ true
over_argument at_root inside stage_loop marked kept =
    ap (λ (b : Bool). not (b && is_reduction stage_loop.variable)) (sym marked)
    ∙ kept_last rules_of.ParallelOverArgument at_root true inside stage_loop (is_marked marks.Parallel stage_loop && is_reduction stage_loop.variable) (λ innermost outermost. refl)
    kept

unshifted : (at_root : Bool) (inside : List Loop) (stage_loop : Loop) → is_marked marks.Parallel stage_loop ≡ true
    → keeps rules_of.ParallelUnshifted at_root true (inside ++ stage_loop ∷ []) ≡ true
    → not stage_loop.is_from_shift ≡ true
unshifted at_root inside stage_loop marked kept =
    ap (λ (b : Bool). not (b && stage_loop.is_from_shift)) (sym marked)
    ∙ kept_last rules_of.ParallelUnshifted at_root true inside stage_loop (is_marked marks.Parallel stage_loop && stage_loop.is_from_shift) (λ innermost outermost. refl) kept

-- what is known of the parallel loop of a legal stage
pub record Outermost (stage : Stage) (stage_loop : Loop) : Type 0 where
  pub last : Last stage_loop stage.loops
  pub loop_invariant : is_loop_invariant stage_loop ≡ true

pub outermost : (stage : Stage) (stage_loop : Loop) → KeepsRules stage → parallel stage ≡ Some stage_loop
    → Outermost stage stage_loop
outermost stage stage_loop legal found =
    let l : Last stage_loop stage.loops = parallel_last legal.0 true stage.loops stage_loop (legal.1 rules_of.ParallelOutermost) found in
    let kept : (rule : LoopRule) → keeps rule legal.0 true (l.inside ++ stage_loop ∷ []) ≡ true = λ rule. ap (keeps rule legal.0 true) (sym l.loops_are)
    ∙ legal.1 rule in
    let f : is_free stage_loop ≡ true = over_argument legal.0 l.inside stage_loop l.marked
    (kept rules_of.ParallelOverArgument) in
    let u : not stage_loop.is_from_shift ≡ true = unshifted legal.0 l.inside stage_loop l.marked
    (kept rules_of.ParallelUnshifted) in
    record { last = l; loop_invariant = ap (λ (b : Bool). b && not stage_loop.is_from_shift) f ∙ u }

-- ---- an iteration is an iteration of it

-- bodies that list the same while a loop outside has a value
nest_same_at : {A : Type 0} (counts : Values) (loops : List Loop) (f g : Values → List A) (id : LoopId) (n : ℕ) → total (has_id id) loops ≡ 0
    → ((values : Values) → values id ≡ n → f values ≡ g values) → (values : Values) → values id ≡ n → nest counts loops f values ≡ nest counts loops g values
nest_same_at counts [] f g id n outside same values is = same values is
nest_same_at counts (own ∷ loops) f g id n outside same values is =
    nest_same_at counts loops (λ outer. upto (counts own.id) (λ iteration. f (with own.id iteration outer))) (λ outer. upto (counts own.id)
    (λ iteration. g (with own.id iteration outer))) id n (omega arith)
    (λ outer here. upto_same (counts own.id) (λ iteration. f (with own.id iteration outer)) (λ iteration. g (with own.id iteration outer)) (λ iteration l.
    same (with own.id iteration outer) (elim (cases_id own.id id) [
      | inl e ↦ let one : has_id id own ≡ 1 = ap (λ (i : LoopId). has_id i own) (sym e) ∙ has_same own in absurd (omega arith)
      | inr d ↦ with_other own.id iteration outer id (swapped_id own.id id d) ∙ here
    ])))
    values is

module _ {A : Type 0} (counts : Values) (inside : List Loop) (stage_loop : Loop) (body : Values → List A) (unique : Unique (inside ++ stage_loop ∷ [])) where
  abbrev only_in : ℕ → Values → List A
  only_in n values = cond (values stage_loop.id == n) (body values) []

  outside_all : total (has_id stage_loop.id) inside ≡ 0
  outside_all = omega (
    arith,
    unique stage_loop.id,
    total-append (has_id stage_loop.id) inside (stage_loop ∷ []),
    has_same stage_loop,
  )

  iteration_here : (n : ℕ) (values : Values) → values stage_loop.id ≡ n → only_in n values ≡ body values
  iteration_here n values e = ap (λ (b : Bool). cond b (body values) []) (eq-eqb (values stage_loop.id) n e)

  iteration_away : (n iteration : ℕ) → iteration ≢ n → (values : Values) → values stage_loop.id ≡ iteration → only_in n values ≡ []
  iteration_away n iteration d values e = ap (λ (b : Bool). cond b (body values) []) (ne_eqb (values stage_loop.id) n (λ same. d (sym e ∙ same)))

  pub iteration_is : (n : ℕ) → n < counts stage_loop.id → nest counts (inside ++ stage_loop ∷ []) (only_in n) zeros ≡ task counts inside stage_loop.id body zeros n
  iteration_is n l =
      tasks_are counts inside stage_loop (only_in n) zeros
      ∙ upto_one (counts stage_loop.id) n (task counts inside stage_loop.id (only_in n) zeros) l
      (λ iteration lt d. nest_none counts inside (only_in n) stage_loop.id iteration outside_all (λ values in_range here. iteration_away n iteration d values here)
      (with stage_loop.id iteration zeros) (with_same stage_loop.id iteration zeros))
      ∙ nest_same_at counts inside (only_in n) body stage_loop.id n outside_all (iteration_here n) (with stage_loop.id n zeros) (with_same stage_loop.id n zeros)

-- ---- iterations of a stage

module _ (func : Func) (update : Option Update) (extents : Extents) (stage : Stage) (is : IsStageOf func update stage) where
  abbrev start : List Loop
  start = first_loops func update

  abbrev cs : Values
  cs = counts extents stage.splits

  abbrev whole_body : Values → List Visit
  whole_body values = over_loops extents stage.splits (λ whole. visit_of extents whole ∷ []) values

  abbrev seen_body : Values → List Visit
  seen_body values = split_bodies (whole_counts extents) 0 stage.splits (λ v. seen (first_loops func update) extents.first_reduction v ∷ []) values

  bodies_same : SameAtRest start whole_body seen_body
  bodies_same = bodies_rest start stage.splits (whole_counts extents) 0 (λ values. visit_of extents values ∷ []) (λ v. seen start extents.first_reduction v
      ∷ []) (leaves (plain func update) is.made).splits_apart (leaf_rests extents start)

  -- an iteration in the words of the first loops, for a loop that is the parallel one
  iteration_seen : (stage_loop : Loop) → parallel stage ≡ Some stage_loop → (n : ℕ)
      → visits_in extents stage n ≡ nest cs stage.loops (λ v. cond (v stage_loop.id == n) (seen_body v) []) zeros
  iteration_seen stage_loop found n =
      ap (λ (p : Option Loop). nest cs stage.loops (λ v. cond (is_iteration_of p n v) (whole_body v) []) zeros) found
      ∙ nest_rests start cs stage.loops (λ v. cond (v stage_loop.id == n) (whole_body v) []) (λ v. cond (v stage_loop.id == n) (seen_body v) []) (leaves (plain func update)
      is.made).loops_apart
      (λ values rests. ap (λ (xs : List Visit). cond (values stage_loop.id == n) xs []) (bodies_same values rests)) zeros (zeros_rest start)

  module _ (stage_loop : Loop) (found : parallel stage ≡ Some stage_loop) (out : Outermost stage stage_loop) where
    abbrev inside : List Loop
    inside = out.last.inside

    made : IsMade (is_some update) start (inside ++ stage_loop ∷ []) stage.splits
    made = subst (λ (ls : List Loop). IsMade (is_some update) start ls stage.splits) out.last.loops_are is.made

    settled : (x y : ℕ) → is_slice_of func update extents x y ≡ true → Settled Visit (whole_counts extents) (seen start extents.first_reduction) (is_slice x y)
        is_loop_invariant (inside ++ stage_loop ∷ []) stage.splits
    settled x y there =
        by_making (Settled Visit (whole_counts extents) (seen start extents.first_reduction) (is_slice x y)
        is_loop_invariant)
        (settled_stays Visit (whole_counts extents) (seen start extents.first_reduction) (is_slice x y) (is_some update) is_loop_invariant start (slice_values x y)
        (invariant_passed_on (is_some update))
        (begins is_loop_invariant invariant_free extents.first_reduction (whole_counts extents) start x y (plain func update) (slice_from func update extents x y there)))
        made

    one_loop : Unique (inside ++ stage_loop ∷ [])
    one_loop = (sound_made (plain func update) made).unique

    -- an iteration is the nest inside the parallel loop, in an iteration of that
    pub iteration_is_task : (n : ℕ) → n < cs stage_loop.id → visits_in extents stage n ≡ task cs inside stage_loop.id seen_body zeros n
    iteration_is_task n l =
        iteration_seen stage_loop found n
        ∙ ap (λ (ls : List Loop). nest cs ls (λ v. cond (v stage_loop.id == n) (seen_body v) []) zeros)
        out.last.loops_are
        ∙ iteration_is cs inside stage_loop seen_body one_loop n l

    visits_are : visits extents stage ≡ upto (cs stage_loop.id) (visits_in extents stage)
    visits_are =
        visits_seen func update extents stage is
        ∙ ap (λ (ls : List Loop). nest cs ls seen_body zeros) out.last.loops_are
        ∙ tasks_are cs inside stage_loop seen_body zeros
        ∙ sym (upto_same (cs stage_loop.id) (visits_in extents stage) (task cs inside stage_loop.id seen_body zeros) iteration_is_task)

    owner : (x y : ℕ) → is_slice_of func update extents x y ≡ true
        → HasOwner (cs stage_loop.id) (visits_in extents stage) x y
    owner x y there =
        let s = settled x y there in
        record {
          owner = s.selects.given stage_loop.id;
          is_iteration = s.selects.range stage_loop.id (among_own is_loop_invariant inside stage_loop
              out.loop_invariant);
          no_other = λ n l d. ap (slice x y) (iteration_is_task n l)
              ∙ task_apart is_loop_invariant (is_slice x y) cs s.selects.given inside stage_loop seen_body s.sound.unique out.loop_invariant s.selects.only zeros n l d;
        }

  -- ---- with a parallel loop or without

  visits_at : KeepsRules stage → (par : Option Loop) → parallel stage ≡ par → visits extents stage ≡ upto (count_of cs par) (visits_in extents stage)
  visits_at legal None e =
      ap (λ (p : Option Loop). nest cs stage.loops (λ v. cond (is_iteration_of p 0 v) (whole_body v) []) zeros) (sym e)
      ∙ first_iteration (visits_in extents stage)
  visits_at legal (Some stage_loop) e = visits_are stage_loop e (outermost stage stage_loop legal e)

  -- the iterations in rising order are all that the stage visits
  pub all_iterations : KeepsRules stage → visits extents stage ≡ upto (iteration_count extents stage) (visits_in extents stage)
  all_iterations legal = visits_at legal (parallel stage) refl

  owner_at : KeepsRules stage → (x y : ℕ) → is_slice_of func update extents x y ≡ true → (par : Option Loop) → parallel stage ≡ par
      → HasOwner (count_of cs par) (visits_in extents stage) x y
  owner_at legal x y there None e = record { owner = 0; is_iteration = omega arith; no_other = λ n l d. absurd (omega (arith, l, d)) }
  owner_at legal x y there (Some stage_loop) e = owner stage_loop e (outermost stage stage_loop legal e) x y there

  -- each slice belongs to one iteration
  pub slice_owner : KeepsRules stage → (x y : ℕ) → is_slice_of func update extents x y ≡ true
      → HasOwner (iteration_count extents stage) (visits_in extents stage) x y
  slice_owner legal x y there = owner_at legal x y there (parallel stage) refl

  slices_of_all : KeepsRules stage → (x y : ℕ) → slice x y (visits extents stage) ≡ upto (iteration_count extents stage)
      (λ n. slice x y (visits_in extents stage n))
  slices_of_all legal x y = ap (slice x y) (all_iterations legal) ∙ filter-upto (is_slice x y) (iteration_count extents stage) (visits_in extents stage)

  ordered_at : KeepsRules stage → (order : List ℕ) → IsOrder (iteration_count extents stage) order → (x y : ℕ) → (there : Bool)
      → is_slice_of func update extents x y ≡ there
      → slice x y (in_order (visits_in extents stage) order) ≡ slice x y (visits extents stage)
  ordered_at legal order is_order x y true e =
      let o = slice_owner legal x y e in
      any_order (is_slice x y) (visits_in extents stage) (iteration_count extents stage) o.owner order is_order o.is_iteration o.no_other
      ∙ ap (slice x y) (sym (all_iterations legal))
  ordered_at legal order is_order x y false e =
      let none : slice x y (visits extents stage) ≡ [] = slice_away func update extents x y e (visits extents stage) (visits_within func update extents stage
      is) in
      any_order_none (is_slice x y) (visits_in extents stage) (iteration_count extents stage) order is_order
      (upto_nil (iteration_count extents stage) (λ n. slice x y (visits_in extents stage n)) (sym (slices_of_all legal x y) ∙ none))
      ∙ sym none

  -- in any order they visit each slice as the stage does
  pub in_any_order : KeepsRules stage → (order : List ℕ) → IsOrder (iteration_count extents stage) order → (x y : ℕ)
      → slice x y (in_order (visits_in extents stage) order) ≡ slice x y (visits extents stage)
  in_any_order legal order is_order x y = ordered_at legal order is_order x y (is_slice_of func update extents x y) refl

-- An iteration is the nest inside the parallel loop.
pub iteration_visits : (func : Func) (update : Option Update) (extents : Extents) (stage : Stage) (inside : List Loop) (stage_loop : Loop) → IsStageOf func update stage
    → stage.loops ≡ inside ++ stage_loop ∷ [] → parallel stage ≡ Some stage_loop
    → (number : ℕ) → number < counts extents stage.splits stage_loop.id
    → visits_in extents stage number ≡ nest (counts extents stage.splits) inside (over_loops extents stage.splits (λ whole. visit_of extents whole ∷ []))
    (with stage_loop.id number zeros)
iteration_visits func update extents stage inside stage_loop is loops_are found number l =
    let cs : Values = counts extents stage.splits in
    let body : Values → List Visit = over_loops extents stage.splits (λ whole. visit_of extents whole ∷ []) in
    let made : IsMade (is_some update) (first_loops func update) (inside ++ stage_loop ∷ []) stage.splits = subst (λ (ls : List Loop). IsMade (is_some update)
    (first_loops func update) ls stage.splits) loops_are is.made in
    ap (λ (p : Option Loop). nest cs stage.loops (λ v. cond (is_iteration_of p number v) (body v) []) zeros) found
    ∙ ap (λ (ls : List Loop). nest cs ls (λ v. cond (v stage_loop.id == number) (body v) []) zeros) loops_are
    ∙ iteration_is cs inside stage_loop body (sound_made (plain func update) made).unique number l
