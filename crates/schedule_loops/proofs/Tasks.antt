-- Tasks are the iterations of the outermost loop. Each slice is visited by one of them, so they may come in any order.
use Rattle.std.proofs.Common.{◌≡◌, ◌≢◌, ℕ, ◌<◌, ◌≤◌, Bool, true, false, cond, List, [], ◌∷◌, ◌++◌, ◌==◌, refl, sym, ap, subst, ◌∙◌, arith, inl, inr}
use Rattle.std.specs.Prelude.{filter}
use Rattle.std.proofs.lemmas.Bool.{cases_eq, eq-eqb, ne_eqb, cases_lt}
use Rattle.std.proofs.lemmas.List.{append-nil}
use Rattle.std.proofs.lemmas.List.Elements.{filter-append}
use Rattle.schedule_lines.specs.declared.stages.Loop.{Loop}
use Rattle.schedule_lines.specs.declared.stages.LoopId.{LoopId}
use Rattle.schedule_lines.specs.Making.{total}
use Rattle.schedule_loops.specs.Visits.{Values, with, upto, nest, in_order, times, IsOrder}
use Rattle.schedule_loops.proofs.Iterations.{upto_none, upto_one, filter-upto}
use Rattle.schedule_loops.proofs.Ids.{same_id-self, with_same, with_other, swapped_id, cases_id}
use Rattle.schedule_loops.proofs.Nesting.{has_id, has_same, has_other, InRange, in_range_more, nest-append, filter-nest}
use Rattle.schedule_loops.proofs.Selecting.{IsAmong, Only, Unique, is_one}
use Rattle.schedule_loops.proofs.Making.{total-append}

-- a nest whose body lists nothing while a loop outside has a value
pub nest_none : {A : Type 0} (counts : Values) (loops : List Loop) (body : Values → List A) (id : LoopId) (n : ℕ) → total (has_id id) loops ≡ 0
    → ((values : Values) → InRange counts loops values → values id ≡ n → body values ≡ []) → (values : Values) → values id ≡ n
    → nest counts loops body values ≡ []
nest_none counts [] body id n outside none values is = none values (λ i there. absurd (omega arith)) is
nest_none counts (own ∷ loops) body id n outside none values is =
    nest_none counts loops (λ outer. upto (counts own.id) (λ iteration. body (with own.id iteration outer))) id n (omega arith)
    (λ outer in_range here. upto_none (counts own.id) (λ iteration. body (with own.id iteration outer)) (λ iteration l.
    none (with own.id iteration outer) (in_range_more counts own loops outer iteration in_range l) (elim (cases_id own.id id) [
      | inl e ↦ let one : has_id id own ≡ 1 = ap (λ (i : LoopId). has_id i own) (sym e) ∙ has_same own in absurd (omega arith)
      | inr d ↦ with_other own.id iteration outer id (swapped_id own.id id d) ∙ here
    ])))
    values is

-- what one iteration of the outermost loop lists
abbrev pub task : {A : Type 0} → Values → List Loop → LoopId → (Values → List A) → Values → ℕ → List A
task counts inside id body values iteration = nest counts inside body (with id iteration values)

pub tasks_are : {A : Type 0} (counts : Values) (inside : List Loop) (stage_loop : Loop) (body : Values → List A) (values : Values)
    → nest counts (inside ++ stage_loop ∷ []) body values ≡ upto (counts stage_loop.id)
    (task counts inside stage_loop.id body values)
tasks_are counts inside stage_loop body values = nest-append counts inside (stage_loop ∷ []) body values

pub among_own : (test : Loop → Bool) (inside : List Loop) (stage_loop : Loop) → test stage_loop ≡ true → IsAmong test (inside ++ stage_loop ∷ []) stage_loop.id
among_own test inside stage_loop passed =
    let one : is_one test stage_loop.id stage_loop ≡ 1 = rw (same_id-self stage_loop.id, passed) refl in
    omega (arith, total-append (is_one test stage_loop.id) inside (stage_loop ∷ []))

module _ {A : Type 0} (test : Loop → Bool) (keep : A → Bool) (counts given : Values) (inside : List Loop) (stage_loop : Loop) (body : Values → List A)
    (unique : Unique (inside ++ stage_loop ∷ [])) (passed : test stage_loop ≡ true) (only : Only test counts (inside ++ stage_loop ∷ []) given (λ values. filter keep (body values)))
  where
    -- Only one task visits what is kept.
    pub task_apart : (values : Values) (iteration : ℕ) → iteration < counts stage_loop.id → iteration ≢ given stage_loop.id → filter keep (task counts inside stage_loop.id body values iteration) ≡ []
    task_apart values iteration l d =
        let none : total (has_id stage_loop.id) inside ≡ 0 = omega (arith, unique stage_loop.id, total-append (has_id stage_loop.id) inside (stage_loop ∷ []), has_same stage_loop) in
        filter-nest keep counts inside body (with stage_loop.id iteration values)
        ∙ nest_none counts inside (λ v. filter keep (body v)) stage_loop.id iteration none
        (λ v in_range here. only v
        (λ id there. elim (cases_id stage_loop.id id) [
          | inl e ↦ subst (λ (i : LoopId). v i < counts i) e (omega (arith, here, l))
          | inr d ↦ in_range id (omega (
            arith,
            there,
            total-append (has_id id) inside (stage_loop ∷ []),
            has_other id
                stage_loop d,
          ))
        ])
        stage_loop.id (among_own test inside stage_loop passed) (λ e. d (sym here ∙ e)))
        (with stage_loop.id iteration values) (with_same stage_loop.id iteration values)

-- ---- tasks in any order

none_listed : {A : Type 0} (keep : A → Bool) (tasks : ℕ → List A) (order : List ℕ) → ((n : ℕ) → 1 ≤ times n order → filter keep (tasks n) ≡ [])
    → filter keep (in_order tasks order) ≡ []
none_listed keep tasks [] none = refl
none_listed {A} keep tasks (first ∷ others) none =
    let e : (first == first) ≡ true = eq-eqb first first refl in
    let one : cond {A = ℕ} (first == first) 1 0 ≡ 1 = rw e refl in
    filter-append keep (tasks first) (in_order tasks others)
    ∙ ap (λ (xs : List A). xs ++ filter keep (in_order tasks others)) (none first (omega arith))
    ∙ none_listed keep tasks others (λ n there. none n (omega arith))

-- what one of the tasks lists, if the others list nothing
one_listed : {A : Type 0} (keep : A → Bool) (tasks : ℕ → List A) (owner : ℕ) (order : List ℕ) → times owner order ≡ 1 → ((n : ℕ) → 1 ≤ times n order → n ≢ owner
    → filter keep (tasks n) ≡ [])
    → filter keep (in_order tasks order) ≡ filter keep (tasks owner)
one_listed keep tasks owner [] once none = absurd (omega arith)
one_listed {A} keep tasks owner (first ∷ others) once none = elim (cases_eq first owner) [
  | inl e ↦
      let t : (first == owner) ≡ true = eq-eqb first owner e in
      let one : cond {A = ℕ} (first == owner) 1 0 ≡ 1 = rw t refl in
      filter-append keep (tasks first) (in_order tasks others)
      ∙ ap (λ (xs : List A). filter keep (tasks first) ++ xs) (none_listed keep tasks others (λ n there. elim (cases_eq n owner) [
        | inl same ↦ absurd (omega (arith, ap (λ (m : ℕ). times m others) same))
        | inr d ↦ none n (omega arith) d
      ]))
      ∙ append-nil (filter keep (tasks first)) ∙ ap (λ (n : ℕ). filter keep (tasks n)) e
  | inr d ↦
      let t : (first == owner) ≡ false = ne_eqb first owner d in
      let zero_here : cond {A = ℕ} (first == owner) 1 0 ≡ 0 = rw t refl in
      let s : (first == first) ≡ true = eq-eqb first first refl in
      let one : cond {A = ℕ} (first == first) 1 0 ≡ 1 = rw s refl in
      filter-append keep (tasks first) (in_order tasks others)
      ∙ ap (λ (xs : List A). xs ++ filter keep (in_order tasks others)) (none first (omega arith) d)
      ∙ one_listed keep tasks owner others (omega arith) (λ n there. none n (omega arith))
]

-- In any order tasks list what they list in rising order, if one owns what is kept.
pub any_order : {A : Type 0} (keep : A → Bool) (tasks : ℕ → List A) (count owner : ℕ) (order : List ℕ) → IsOrder count order → owner < count
    → ((n : ℕ) → n < count → n ≢ owner → filter keep (tasks n) ≡ []) → filter keep (in_order tasks order) ≡ filter keep (upto count tasks)
any_order keep tasks count owner order is l none =
    one_listed keep tasks owner order (is.once owner l) (λ n there d. elim (cases_lt n count) [
      | inl below ↦ none n below d
      | inr above ↦ absurd (omega (arith, is.no_other n above))
    ])
    ∙ sym (filter-upto keep count tasks ∙ upto_one count owner (λ n. filter keep (tasks n)) l none)

-- Where no task lists anything that is kept, they may come in any order too.
pub any_order_none : {A : Type 0} (keep : A → Bool) (tasks : ℕ → List A) (count : ℕ) (order : List ℕ) → IsOrder count order
    → ((n : ℕ) → n < count → filter keep (tasks n) ≡ []) → filter keep (in_order tasks order) ≡ []
any_order_none keep tasks count order is none =
    none_listed keep tasks order (λ n there. elim (cases_lt n count) [
      | inl below ↦ none n below
      | inr above ↦ absurd (omega (arith, is.no_other n above))
    ])
