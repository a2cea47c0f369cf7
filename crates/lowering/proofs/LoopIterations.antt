-- Loops of a consumer: how many stand inside one, and what changes where one is in another iteration.
use Rattle.std.proofs.Common.{◌≡◌, ℕ, zero, suc, ◌^◌, ◌<◌, ◌≤◌, Bool, true, false, cond, List, [], ◌∷◌, ◌++◌, length, take, drop, Option, Some, None, refl, sym}
use Rattle.std.proofs.Common.{ap, subst, ◌∙◌, arith, inl, inr}
use Rattle.std.specs.Prelude.{◌==◌, ◌&&◌, nat_lt, slice_get, bytes_eq, Contains}
use Rattle.std.specs.List.{AllByRecursion}
use Rattle.std.proofs.lemmas.Bool.{cases_eq, ltb-false}
use Rattle.std.proofs.lemmas.List.Elements.{Contains-append_left, Contains-append_right}
use mathlib.Core.Path.{fun_ext}
use Rattle.schedule_lines.specs.declared.stages.Loop.{Loop}
use Rattle.schedule_lines.specs.declared.stages.LoopId.{LoopId}
use Rattle.schedule_lines.specs.Directives.{find, same_id}
use Rattle.schedule_lines.specs.Making.{total}
use Rattle.schedule.specs.Placements.{comes_first}
use Rattle.schedule_loops.specs.Visits.{Values, with, upto, nest}
use Rattle.schedule_loops.specs.Runs.{AreIterations}
use Rattle.schedule_loops.proofs.Ids.{cases_id, same_id-true, same_id-self, with_same, with_other}
use Rattle.schedule_loops.proofs.Making.{total-append}
use Rattle.schedule_loops.proofs.Nesting.{has_id, has_same}
use Rattle.schedule_loops.proofs.Selecting.{Unique}
use Rattle.bounds.specs.Views.{inner_count}
use Rattle.bounds_laws.specs.ConsumerLaws.{iteration_of, iteration_at, iterations_from}
use Rattle.loop_ir.specs.declared.expressions.Counter.{Counter}
use Rattle.loop_ir.specs.Counters as counters
use Rattle.lowering_nests.specs.Nests.{AreSmall}
use Rattle.lowering.specs.Consuming.{consuming}

-- ---- loops inside one

count_by : (test : Bool) (n : ℕ) → test ≡ false → cond test 0 (suc n) ≡ suc n
count_by test n e = ap (λ (b : Bool). cond b 0 (suc n)) e

-- of loops of which no two are one, the one after this many has this many inside
pub count_at : (inside : List Loop) (stage_loop : Loop) (outside : List Loop) → Unique (inside ++ stage_loop ∷ outside) → inner_count stage_loop.id (inside ++ stage_loop ∷ outside)
    ≡ length inside
count_at [] stage_loop outside unique = ap (λ (b : Bool). cond b 0 (suc (inner_count stage_loop.id outside)))
    (same_id-self stage_loop.id)
count_at (first ∷ inside) stage_loop outside unique = elim (cases_id first.id stage_loop.id) [
  | inl e ↦ absurd (omega (
    arith,
    unique stage_loop.id,
    ap (λ (i : LoopId). has_id i first) e,
    has_same first,
    total-append (has_id stage_loop.id) inside (stage_loop ∷ outside),
    has_same stage_loop,
  ))
  | inr d ↦ count_by (same_id first.id stage_loop.id) (inner_count stage_loop.id (inside ++ stage_loop ∷ outside)) d
      ∙ ap suc (count_at inside stage_loop outside (λ id. omega (arith, unique id)))
]

first_counts : (test : Bool) (n : ℕ) → cond test 0 (suc n) ≡ 0 → test ≡ true
first_counts true n e = refl
first_counts false n e = absurd (omega (arith, e))

later_counts : (test : Bool) (n m : ℕ) → cond test 0 (suc n) ≡ suc m → n ≡ m
later_counts true n m e = absurd (omega (arith, e))
later_counts false n m e = omega (arith, e)

-- and no other has this many
pub counted_is : (inside : List Loop) (stage_loop : Loop) (outside : List Loop) (id : LoopId) → inner_count id (inside ++ stage_loop ∷ outside) ≡ length inside → stage_loop.id ≡ id
counted_is [] stage_loop outside id e = same_id-true stage_loop.id id
    (first_counts (same_id stage_loop.id id) (inner_count id outside) e)
counted_is (first ∷ inside) stage_loop outside id e = counted_is inside stage_loop outside id (later_counts (same_id first.id id) (inner_count id (inside ++ stage_loop ∷ outside))
    (length inside) e)

count_few : (test : Bool) (n m : ℕ) → n < m → cond test 0 (suc n) < suc m
count_few true n m l = omega arith
count_few false n m l = omega (arith, l)

found_by : (test named : Bool) (n m : ℕ) (first loop : Loop) (rest : Option Loop) → cond named (Some first) rest ≡ Some loop → (first ≡ loop → test ≡ true)
    → (rest ≡ Some loop → n < m) → cond test 0 (suc n) < suc m
found_by test true n m first loop rest e here later =
    let same : first ≡ loop = cc in
    let t : test ≡ true = here same in
    subst (λ (b : Bool). cond b 0 (suc n) < suc m) (sym t) (omega arith)
found_by test false n m first loop rest e here later = count_few test n m (later e)

-- a loop that is found is among them
pub count_found : (name : List ℕ) (loops : List Loop) (loop : Loop) → find name loops ≡ Some loop → inner_count loop.id loops < length loops
count_found name [] loop e = absurd cc
count_found name (first ∷ others) loop e =
    found_by (same_id first.id loop.id) (bytes_eq first.name name) (inner_count loop.id others) (length others) first loop (find name others) e
    (λ same. ap (λ (l : Loop). same_id l.id loop.id) same ∙ same_id-self loop.id) (λ r. count_found name others loop r)

first_by : (bool other rest : Bool) (n m : ℕ) → cond bool true (cond other false rest) ≡ true → (rest ≡ true → n ≤ m) → cond bool 0 (suc n) ≤ cond other 0 (suc m)
first_by true other rest n m e l = omega arith
first_by false true rest n m e l = absurd cc
first_by false false rest n m e l = let k : n ≤ m = l e in omega (arith, k)

pub count_first : (loop_id other : LoopId) (loops : List Loop) → comes_first loop_id other loops ≡ true → inner_count loop_id loops ≤ inner_count other loops
count_first loop_id other [] e = absurd cc
count_first loop_id other (first ∷ outside) e =
    first_by (same_id first.id loop_id) (same_id first.id other) (comes_first loop_id other outside) (inner_count loop_id outside) (inner_count other outside) e
    (λ r. count_first loop_id other outside r)

-- ---- loops outside

pub drop_front : {A : Type 0} (xs ys : List A) → drop (length xs) (xs ++ ys) ≡ ys
drop_front [] ys = refl
drop_front (x ∷ xs) ys = drop_front xs ys

pub iterations_drop : (counts : Values) (n : ℕ) (loops : List Loop) (iterations : Values) → AreIterations counts loops iterations → AreIterations counts (drop n loops) iterations
iterations_drop counts zero loops iterations are = are
iterations_drop counts (suc n) [] iterations are = are
iterations_drop counts (suc n) (first ∷ others) iterations are = iterations_drop counts n others iterations are.1

pub iterations_take : (counts : Values) (n : ℕ) (loops : List Loop) (iterations : Values) → AreIterations counts loops iterations → AreIterations counts (take n loops) iterations
iterations_take counts zero loops iterations are = tt
iterations_take counts (suc n) [] iterations are = tt
iterations_take counts (suc n) (first ∷ others) iterations are = (are.0, iterations_take counts n others iterations are.1)

-- a loop that isn't among them is in another iteration
pub iterations_with : (counts : Values) (loops : List Loop) (iterations : Values) (id : LoopId) (iteration : ℕ) → total (has_id id) loops ≡ 0 → AreIterations counts loops iterations
    → AreIterations counts loops (with id iteration iterations)
iterations_with counts [] iterations id iteration none are = tt
iterations_with counts (own ∷ others) iterations id iteration none are = (
  elim (cases_id own.id id) [
    | inl e ↦ absurd (omega (arith, none, ap (λ (i : LoopId). has_id i own) e, has_same own))
    | inr d ↦ subst (λ (n : ℕ). n < counts own.id) (sym (with_other id iteration iterations own.id d)) are.0
  ],
  iterations_with counts others iterations id iteration (omega (arith, none)) are.1,
)

pub none_outside : (inside : List Loop) (stage_loop : Loop) (outside : List Loop) → Unique (inside ++ stage_loop ∷ outside) → total (has_id stage_loop.id) outside ≡ 0
none_outside inside stage_loop outside unique = omega (arith, unique stage_loop.id, total-append (has_id stage_loop.id) inside (stage_loop ∷ outside), has_same stage_loop)

other_among : (loops : List Loop) (id : LoopId) → total (has_id id) loops ≡ 0 → (at : ℕ) (l : Loop) → slice_get loops at ≡ Some l → same_id l.id id ≡ false
other_among [] id none at l e = absurd cc
other_among (first ∷ others) id none zero l e =
    let same : first ≡ l = cc in
    elim (cases_id l.id id) [
      | inl i ↦ absurd (omega (arith, none, ap (λ (k : LoopId). has_id k l) i, has_same l, ap (has_id id) same))
      | inr d ↦ d
    ]
other_among (first ∷ others) id none (suc at) l e = other_among others id (omega (arith, none)) at l e

other_at : (inside : List Loop) (stage_loop : Loop) (outside : List Loop) → Unique (inside ++ stage_loop ∷ outside) → (at : ℕ) → length inside < at → (l : Loop)
    → slice_get (inside ++ stage_loop ∷ outside) at ≡ Some l → same_id l.id stage_loop.id ≡ false
other_at [] stage_loop outside unique zero few l e = absurd (omega (arith, few))
other_at [] stage_loop outside unique (suc at) few l e = other_among outside stage_loop.id
    (none_outside [] stage_loop outside unique) at l e
other_at (first ∷ inside) stage_loop outside unique zero few l e = absurd (omega (arith, few))
other_at (first ∷ inside) stage_loop outside unique (suc at) few l e = other_at inside stage_loop outside (λ id. omega (arith, unique id)) at (omega (arith, few)) l e

module _ (inside : List Loop) (stage_loop : Loop) (outside : List Loop) (unique : Unique (inside ++ stage_loop ∷ outside)) (iterations : Values) (iteration n : ℕ)
    (few : suc (length inside) ≤ n) where
  abbrev loops : List Loop
  loops = inside ++ stage_loop ∷ outside

  iteration_by : (at : ℕ) (test : Bool) → nat_lt at n ≡ test → (marked_loop : Option Loop)
      → slice_get loops at ≡ marked_loop
      → cond test 0 (iteration_of (with stage_loop.id iteration iterations) marked_loop) ≡ cond test 0 (iteration_of iterations marked_loop)
  iteration_by at true t marked_loop e = refl
  iteration_by at false t None e = refl
  iteration_by at false t (Some l) e =
      let behind : n ≤ at = ltb-false at n t in
      with_other stage_loop.id iteration iterations l.id (other_at inside stage_loop outside unique at (omega (arith, behind, few)) l e)

  same_iteration : (at : ℕ) → iteration_at n (with stage_loop.id iteration iterations) loops at ≡ iteration_at n iterations loops at
  same_iteration at = iteration_by at (nat_lt at n) refl (slice_get loops at) refl

  -- what is counted from a loop further out stays
  pub iterations_stay : iterations_from n (with stage_loop.id iteration iterations) loops ≡ iterations_from n iterations
      loops
  iterations_stay = rw (same_iteration 0, same_iteration 1, same_iteration 2, same_iteration 3, same_iteration 4) refl

-- ---- values of counters

pub consuming_with : (consumer : ℕ) (id : LoopId) (iteration : ℕ) (iterations : Values)
    → counters.with (record { func = consumer; id = id }) iteration (consuming consumer iterations) ≡ consuming consumer (with id iteration iterations)
consuming_with consumer id iteration iterations = fun_ext (λ counter. by_test counter (counter.func == consumer))
  where
    by_test : (counter : Counter) (b : Bool) → cond (b && same_id counter.id id) iteration (cond b (iterations counter.id) 0) ≡ cond b (cond (same_id counter.id id) iteration (iterations counter.id))
        0
    by_test counter true = refl
    by_test counter false = refl

pub consuming_none : (consumer : ℕ) → counters.no_values ≡ consuming consumer (λ id. 0)
consuming_none consumer = fun_ext (λ own. by_test (own.func == consumer))
  where
    by_test : (b : Bool) → ◌≡◌ {A = ℕ} 0 (cond b 0 0)
    by_test true = refl
    by_test false = refl

pub small_with : (id : LoopId) (n : ℕ) (values : Values) → n < 2 ^ 25 → AreSmall values → AreSmall (with id n values)
small_with id n values few are other = by_test (same_id other id)
  where
    by_test : (b : Bool) → cond b n (values other) < 2 ^ 25
    by_test true = few
    by_test false = are other

-- ---- lists

pub contains_upto : {A : Type 0} (x : A) (n k : ℕ) (f : ℕ → List A) → k < n → Contains (f k) x → Contains (upto n f) x
unfolding upto
contains_upto x zero k f l there = absurd (omega arith)
contains_upto {A} x (suc n) k f l there = elim (cases_eq k n) [
  | inl e ↦ Contains-append_right (upto n f) (f n) x (subst (λ (m : ℕ). Contains (f m) x) e there)
  | inr d ↦ Contains-append_left (upto n f) (f n) x (contains_upto x n k f (omega (arith, d)) there)
]

with_itself : (id : LoopId) (iterations : Values) → with id (iterations id) iterations ≡ iterations
with_itself id iterations = fun_ext (λ other. elim (cases_id other id) [
  | inl e ↦ ap (λ (i : LoopId). with id (iterations id) iterations i) e ∙ with_same id (iterations id) iterations ∙ ap iterations (sym e)
  | inr d ↦ with_other id (iterations id) iterations other d
])

-- what is listed in some iterations is listed by loops that take these among theirs
pub nest_takes : {A : Type 0} (x : A) (counts : Values) (loops : List Loop) (body : Values → List A) (iterations : Values) → AreIterations counts loops iterations
    → Contains (body iterations) x → Contains (nest counts loops body iterations) x
nest_takes x counts [] body iterations are there = there
nest_takes {A} x counts (own ∷ outside) body iterations are there =
    nest_takes x counts outside (λ outer. upto (counts own.id) (λ iteration. body (with own.id iteration outer))) iterations are.1
    (contains_upto x (counts own.id) (iterations own.id) (λ iteration. body (with own.id iteration iterations)) are.0
    (subst (λ (t : Values). Contains (body t) x) (sym (with_itself own.id iterations)) there))

pub all_contained : {A : Type 0} (P : A → Type 0) (xs : List A) → ((x : A) → Contains xs x → P x) → AllByRecursion P xs
all_contained P [] each = tt
all_contained P (x ∷ xs) each = (each x (0, omega arith, refl), all_contained P xs (λ y there. each y (suc there.0, omega (arith, there.1), there.2)))
