-- A nest of whose loops those outside reductions list something in one iteration alone.
use Rattle.std.proofs.Common.{◌≡◌, ◌≢◌, ℕ, ◌<◌, ◌≤◌, Bool, true, false, not, cond, List, [], ◌∷◌, refl, sym, ap, subst, ◌∙◌, arith, inl, inr}
use Rattle.std.specs.Prelude.{◌&&◌, if◌then◌else◌}
use Rattle.std.proofs.lemmas.Bool.{cases_eq}
use Rattle.schedule_lines.specs.declared.stages.Loop.{Loop}
use Rattle.schedule_lines.specs.declared.stages.LoopId.{LoopId}
use Rattle.schedule_lines.specs.Directives.{same_id, is_reduction, reductions}
use Rattle.schedule_lines.specs.Making.{total, SameLoops}
use Rattle.schedule_loops.specs.Visits.{Values, with, upto, nest}
use Rattle.schedule_loops.proofs.Iterations.{upto_same, upto_none, upto_one}
use Rattle.schedule_loops.proofs.Ids.{cases_id, swapped_id, with_same, with_other, same_id-self}
use Rattle.schedule_loops.proofs.Nesting.{has_id, has_same, InRange, in_range_more, nest_same}

-- 1 for the loop that is this one, if it passes a test
abbrev pub is_one : (Loop → Bool) → LoopId → Loop → ℕ
is_one test id stage_loop = if same_id stage_loop.id id && test stage_loop then 1 else 0

-- It is one of the loops that pass a test.
abbrev pub IsAmong : (Loop → Bool) → List Loop → LoopId → Type 0
IsAmong test loops id = 1 ≤ total (is_one test id) loops

abbrev pub Unique : List Loop → Type 0
Unique loops = (id : LoopId) → total (has_id id) loops ≤ 1

one_at : (same passed : Bool) → cond (same && passed) 1 0 ≤ cond same 1 0
one_at true true = omega arith
one_at true false = omega arith
one_at false passed = omega arith

pub one_has : (test : Loop → Bool) (id : LoopId) (stage_loop : Loop) → is_one test id stage_loop ≤ has_id id stage_loop
one_has test id stage_loop = one_at (same_id stage_loop.id id) (test stage_loop)

pub among_has : (test : Loop → Bool) (id : LoopId) (loops : List Loop) → total (is_one test id) loops ≤ total (has_id id) loops
among_has test id [] = omega arith
among_has test id (own ∷ others) = omega (arith, one_has test id own, among_has test id others)

-- ---- nests of loops that are given by what they are

abbrev pub nest_ids : {A : Type 0} → Values → List LoopId → (Values → List A) → Values → List A
nest_ids counts [] body values = body values
nest_ids counts (id ∷ outside) body values = nest_ids counts outside (λ outer. upto (counts id) (λ iteration. body (with id iteration outer))) values

-- What a body lists depends on each loop's value alone.
abbrev pub OnValues : {A : Type 0} → (Values → List A) → Type 0
OnValues body = (one other : Values) → ((id : LoopId) → one id ≡ other id) → body one ≡ body other

with_same_values : (id : LoopId) (n : ℕ) (one other : Values) → ((i : LoopId) → one i ≡ other i) → (i : LoopId) → with id n one i ≡ with id n other i
with_same_values id n one other same i = ap (λ (m : ℕ). cond (same_id i id) n m) (same i)

pub on_values_more : {A : Type 0} (counts : Values) (id : LoopId) (body : Values → List A) → OnValues body
    → OnValues (λ outer. upto (counts id) (λ iteration. body (with id iteration outer)))
on_values_more counts id body on one other same =
    upto_same (counts id) (λ iteration. body (with id iteration one)) (λ iteration. body (with id iteration other)) (λ iteration l. on (with id iteration one) (with id iteration other)
    (with_same_values id iteration one other same))

on_values_with : {A : Type 0} (id : LoopId) (n : ℕ) (body : Values → List A) → OnValues body → OnValues (λ v. body (with id n v))
on_values_with id n body on one other same = on (with id n one) (with id n other) (with_same_values id n one other same)

pub ids_values : {A : Type 0} (counts : Values) (ids : List LoopId) (body : Values → List A) → OnValues body → OnValues (nest_ids counts ids body)
ids_values counts [] body on = on
ids_values counts (id ∷ ids) body on = ids_values counts ids (λ outer. upto (counts id) (λ iteration. body (with id iteration outer))) (on_values_more counts id body on)

ids_same : {A : Type 0} (counts : Values) (ids : List LoopId) (f g : Values → List A) → ((v : Values) → f v ≡ g v) → (v : Values)
    → nest_ids counts ids f v ≡ nest_ids counts ids g v
ids_same counts [] f g same v = same v
ids_same counts (id ∷ ids) f g same v =
    ids_same counts ids (λ outer. upto (counts id) (λ iteration. f (with id iteration outer))) (λ outer. upto (counts id) (λ iteration. g (with id iteration outer)))
    (λ outer. upto_same (counts id) (λ iteration. f (with id iteration outer)) (λ iteration. g (with id iteration outer)) (λ iteration l. same (with id iteration outer))) v

abbrev Without : LoopId → List LoopId → Type 0
Without id [] = Unit {0}
Without id (first ∷ others) = (same_id first id ≡ false) × Without id others

-- two loops are given values in either order
with_swapped : (a b : LoopId) (m n : ℕ) (values : Values) → same_id a b ≡ false → (id : LoopId) → with a m (with b n values) id ≡ with b n (with a m values) id
with_swapped a b m n values d id = elim (cases_id id a) [
  | inl e ↦ subst (λ (i : LoopId). with a m (with b n values) i ≡ with b n (with a m values) i) (sym e) (with_same a m (with b n values)
      ∙ sym (with_other b n (with a m values) a d ∙ with_same a m values))
  | inr o ↦ with_other a m (with b n values) id o ∙ ap (λ (k : ℕ). cond (same_id id b) n k) (sym (with_other a m values id o))
]

-- what is given inside may be given outside
given_outside : {A : Type 0} (counts : Values) (ids : List LoopId) (id : LoopId) (n : ℕ) (body : Values → List A) → OnValues body → Without id ids
    → (values : Values) → nest_ids counts ids (λ v. body (with id n v)) values ≡ nest_ids counts ids body (with id n values)
given_outside counts [] id n body on without values = refl
given_outside counts (first ∷ ids) id n body on without values =
    ids_same counts ids (λ outer. upto (counts first) (λ iteration. body (with id n (with first iteration outer)))) (λ outer. upto (counts first)
    (λ iteration. body (with first iteration (with id n outer))))
    (λ outer. upto_same (counts first) (λ iteration. body (with id n (with first iteration outer))) (λ iteration. body (with first iteration (with id n outer)))
    (λ iteration l. on (with id n (with first iteration outer)) (with first iteration (with id n outer)) (with_swapped id first n iteration outer (swapped_id first id without.0))))
    values
    ∙ given_outside counts ids id n (λ outer. upto (counts first) (λ iteration. body (with first iteration outer))) (on_values_more counts first body on) without.1 values

-- ---- loops outside reductions have given values

abbrev pub is_free : Loop → Bool
is_free stage_loop = not (is_reduction stage_loop.variable)

abbrev pub filled : Values → List Loop → Values → Values
filled given [] values = values
filled given (own ∷ others) values = if is_reduction own.variable then filled given others values else with own.id (given own.id) (filled given others values)

without_at : (test : Bool) (id : LoopId) (stage_loop : Loop) (others : List LoopId) → same_id stage_loop.id id ≡ false → Without id others
    → Without id (cond test (stage_loop.id ∷ others) others)
without_at true id stage_loop others d w = (d, w)
without_at false id stage_loop others d w = w

without_from : (id : LoopId) (loops : List Loop) → total (has_id id) loops ≡ 0 → Without id (reductions loops)
without_from id [] none = tt
without_from id (own ∷ others) none = elim (cases_id own.id id) [
  | inl e ↦ let one : has_id id own ≡ 1 = ap (λ (i : LoopId). has_id i own) (sym e) ∙ has_same own in absurd (omega arith)
  | inr d ↦ without_at (is_reduction own.variable) id own (reductions others) d (without_from id others (omega arith))
]

-- A body lists nothing where one of the free loops has another value than the given one.
abbrev pub Only : {A : Type 0} → (Loop → Bool) → Values → List Loop → Values → (Values → List A) → Type 0
Only test counts loops given body =
    (values : Values) → InRange counts loops values → (id : LoopId) → IsAmong test loops id → values id ≢ given id → body values ≡ []

-- one of the other loops is not this one
apart : (test : Loop → Bool) (stage_loop : Loop) (others : List Loop) (id : LoopId) → Unique (stage_loop ∷ others) → IsAmong test others id → same_id id stage_loop.id ≡ false
apart test stage_loop others id unique there = elim (cases_id id stage_loop.id) [
  | inl e ↦
      let one : has_id id stage_loop ≡ 1 = ap (λ (i : LoopId). has_id i stage_loop) e ∙ has_same stage_loop in
      absurd (omega (arith, unique id, among_has test id others))
  | inr d ↦ d
]

among_more : (test : Loop → Bool) (stage_loop : Loop) (others : List Loop) (id : LoopId) → IsAmong test others id → IsAmong test (stage_loop ∷ others) id
among_more test stage_loop others id there = omega arith

unique_less : (stage_loop : Loop) (others : List Loop) → Unique (stage_loop ∷ others) → Unique others
unique_less stage_loop others unique id = omega (arith, unique id)

only_given : {A : Type 0} (counts : Values) (stage_loop : Loop) (others : List Loop) (given : Values) (body : Values → List A) (n : ℕ) → n < counts stage_loop.id
    → Unique (stage_loop ∷ others) → Only is_free counts (stage_loop ∷ others) given body
    → Only is_free counts others given (λ v. body (with stage_loop.id n v))
only_given counts stage_loop others given body n l unique only values in_range id there d =
    only (with stage_loop.id n values) (in_range_more counts stage_loop others values n in_range l) id (among_more is_free stage_loop others id there)
    (λ e. d (sym (with_other stage_loop.id n values id (apart is_free stage_loop others id unique there)) ∙ e))

-- the nest is one of the reductions alone
module _ (A : Type 0) (counts given : Values) where
  abbrev Selected : List Loop → Type 0
  Selected loops =
      (body : Values → List A) → Unique loops → OnValues body → ((id : LoopId) → IsAmong is_free loops id → given id < counts id)
      → Only is_free counts loops given body
      → (values : Values) → nest counts loops body values ≡ nest_ids counts (reductions loops) body (filled given loops values)

  selected_at : (test : Bool) (stage_loop : Loop) (others : List Loop) → is_reduction stage_loop.variable ≡ test → Selected others → Selected (stage_loop ∷ others)
  selected_at true stage_loop others is later body unique on range only values =
      rw is
      (later (λ outer. upto (counts stage_loop.id) (λ iteration. body (with stage_loop.id iteration outer))) (unique_less stage_loop others unique) (on_values_more counts stage_loop.id body on)
      (λ id there. range id (among_more is_free stage_loop others id there))
      (λ v in_range id there d. upto_none (counts stage_loop.id) (λ iteration. body (with stage_loop.id iteration v)) (λ iteration l. only_given counts stage_loop others given body iteration l unique
      only v in_range id there d))
      values)
  selected_at false stage_loop others is later body unique on range only values =
      let one : is_one is_free stage_loop.id stage_loop ≡ 1 = rw (same_id-self stage_loop.id, is) refl in
      let here : IsAmong is_free (stage_loop ∷ others) stage_loop.id = omega arith in
      let l : given stage_loop.id < counts stage_loop.id = range stage_loop.id here in
      let none : total (has_id stage_loop.id) others ≡ 0 = omega (arith, unique stage_loop.id, has_same stage_loop) in
      rw is
      (nest_same counts others (λ outer. upto (counts stage_loop.id) (λ iteration. body (with stage_loop.id iteration outer))) (λ v. body (with stage_loop.id (given stage_loop.id) v))
      (λ v in_range. upto_one (counts stage_loop.id) (given stage_loop.id)
      (λ iteration. body (with stage_loop.id iteration v)) l
      (λ iteration lt d. only (with stage_loop.id iteration v) (in_range_more counts stage_loop others v iteration in_range lt) stage_loop.id here (λ e. d (sym (with_same stage_loop.id iteration v) ∙ e))))
      values
      ∙ later (λ v. body (with stage_loop.id (given stage_loop.id) v)) (unique_less stage_loop others unique) (on_values_with stage_loop.id (given stage_loop.id) body on)
      (λ id there. range id (among_more is_free stage_loop others id there))
      (only_given counts stage_loop others given body (given stage_loop.id) l unique only) values
      ∙ given_outside counts (reductions others) stage_loop.id (given stage_loop.id) body on (without_from stage_loop.id others none) (filled given others values))

  pub selected : (loops : List Loop) → Selected loops
  selected [] = λ body unique on range only values. refl
  selected (stage_loop ∷ others) = selected_at (is_reduction stage_loop.variable) stage_loop others refl
      (selected others)

-- ---- loops that change places

one_free : (id : LoopId) (stage_loop : Loop) → stage_loop.id ≡ id → is_reduction stage_loop.variable ≡ false
    → is_one is_free id stage_loop ≡ 1
one_free id stage_loop e is = ap (λ (i : LoopId). is_one is_free i stage_loop) (sym e) ∙ rw
    (same_id-self stage_loop.id, is) refl

one_reduction_at : (same : Bool) → cond {A = ℕ} (same && false) 1 0 ≡ 0
one_reduction_at true = refl
one_reduction_at false = refl

one_reduction : (id : LoopId) (stage_loop : Loop) → is_reduction stage_loop.variable ≡ true
    → is_one is_free id stage_loop ≡ 0
one_reduction id stage_loop is = rw is (one_reduction_at (same_id stage_loop.id id))

one_other : (test : Loop → Bool) (id : LoopId) (stage_loop : Loop) → same_id stage_loop.id id ≡ false
    → is_one test id stage_loop ≡ 0
one_other test id stage_loop d = rw d refl

-- what loops are given, and what others have
abbrev pub Fills : Values → List Loop → Values → LoopId → Type 0
Fills given loops values id =
    (IsAmong is_free loops id → filled given loops values id ≡ given id) × (total (is_one is_free id) loops ≡ 0 → filled given loops values id ≡ values id)

fills_at : (test : Bool) (given : Values) (stage_loop : Loop) (others : List Loop) (values : Values) (id : LoopId) → is_reduction stage_loop.variable ≡ test
    → Fills given others values id → Fills given (stage_loop ∷ others) values id
fills_at true given stage_loop others values id is later =
    let none : is_one is_free id stage_loop ≡ 0 = one_reduction id stage_loop is in
    (λ there. rw is (later.0 (omega arith)), λ there. rw is (later.1 (omega arith)))
fills_at false given stage_loop others values id is later = elim (cases_id stage_loop.id id) [
  | inl e ↦
      let one : is_one is_free id stage_loop ≡ 1 = one_free id stage_loop e is in
      let here : with stage_loop.id (given stage_loop.id) (filled given others values) id ≡ given id =
      subst (λ (i : LoopId). with stage_loop.id (given stage_loop.id) (filled given others values) i ≡ given i) e (with_same stage_loop.id (given stage_loop.id)
      (filled given others values)) in
      (λ there. rw is here, λ there. absurd (omega arith))
  | inr d ↦
      let none : is_one is_free id stage_loop ≡ 0 = one_other is_free id stage_loop d in
      let here : with stage_loop.id (given stage_loop.id) (filled given others values) id ≡ filled given others values id = with_other stage_loop.id (given stage_loop.id)
      (filled given others values) id (swapped_id stage_loop.id id d) in
      (λ there. rw is (here ∙ later.0 (omega arith)), λ there. rw is (here ∙ later.1 (omega arith)))
]

pub fills : (given : Values) (loops : List Loop) (values : Values) (id : LoopId) → Fills given loops values id
fills given [] values id = (λ there. absurd (omega arith), λ there. refl)
fills given (own ∷ others) values id = fills_at (is_reduction own.variable) given own others values id refl (fills given others values id)

filled_same : (given : Values) (loops new : List Loop) (values : Values) → SameLoops new loops → (id : LoopId)
    → filled given new values id ≡ filled given loops values id
filled_same given loops new values same id = elim (cases_eq (total (is_one is_free id) loops) 0) [
  | inl e ↦ (fills given new values id).1 (same (is_one is_free id) ∙ e) ∙ sym ((fills given loops values id).1 e)
  | inr d ↦ (fills given new values id).0 (omega (arith, same (is_one is_free id), d)) ∙ sym ((fills given loops values id).0 (omega (arith, d)))
]

pub only_moved : {A : Type 0} (test : Loop → Bool) (counts given : Values) (loops new : List Loop) (body : Values → List A) → SameLoops new loops
    → Only test counts loops given body → Only test counts new given body
only_moved test counts given loops new body same only values in_range id there d =
    only values (λ i l. in_range i (omega (arith, same (has_id i)))) id (omega (arith, same (is_one test id))) d

-- Loops in another order that keeps that of reductions list the same.
pub moved_nest : {A : Type 0} (counts given : Values) (loops new : List Loop) (body : Values → List A) → SameLoops new loops → reductions new ≡ reductions loops
    → Unique loops → OnValues body
    → ((id : LoopId) → IsAmong is_free loops id → given id < counts id) → Only is_free counts loops given body
    → (values : Values) → nest counts new body values ≡ nest counts loops body values
moved_nest {A} counts given loops new body same order unique on range only values =
    selected A counts given new body (λ id. omega (arith, same (has_id id), unique id)) on (λ id there. range id (omega (arith, same (is_one is_free id))))
    (only_moved is_free counts given loops new body same only) values
    ∙ ap (λ (ids : List LoopId). nest_ids counts ids body (filled given new values)) order
    ∙ ids_values counts (reductions loops) body on (filled given new values) (filled given loops values) (filled_same given loops new values same)
    ∙ sym (selected A counts given loops body unique on range only values)
