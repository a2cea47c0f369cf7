-- How many turns at most still bring a program on: each turn lowers that, but for those of harts that wait or have finished.
use Rattle.std.proofs.Common.{◌≡◌, ℕ, zero, suc, ◌+◌, ◌-◌, ◌*◌, ◌<◌, ◌≤◌, List, [], ◌∷◌, length, set, Some, None, refl, ap, ◌∙◌, sym, subst, arith, inl, inr}
use Rattle.std.specs.Prelude.{◌≢◌, ◌⊎◌, ◌==◌, if◌then◌else◌, map, slice_get, nat_lt}
use Rattle.std.proofs.lemmas.Bool.{cases_eq, cases_lt}
use Rattle.std.proofs.lemmas.Bool.Decides.{nat_tests}
use Rattle.multi_hart.specs.Run.{State, turn}
use Rattle.multi_hart.proofs.Framing.{slice_get-set_other}
use Rattle.multi_hart_laws.specs.Uses.{Task, Setup}
use Rattle.work_sharing.specs.Phases.{Phase}
use Rattle.work_sharing.specs.Programs.{Program}
use Rattle.work_sharing.specs.Fairness.{sum_below, turns_of_phase}
use Rattle.work_sharing.proofs.Roles.{Role, Before, Asked, Drawing, Drew, Inside, Adding, Looking, Looked, Leaving, Over, has_added, total, Becomes}
use Rattle.work_sharing.proofs.Roles.{InProgram}
use Rattle.work_sharing.proofs.Keeping.{found, same-get, total-set}
use Rattle.work_sharing.proofs.Turning.{total-same}
use Rattle.work_sharing.proofs.Phases.{come, come-either, come-role, length-come, RolesAfter, Went}

-- ---- sums

pub sum_from : (ℕ → ℕ) → ℕ → ℕ → ℕ
sum_from f k zero = 0
sum_from f k (suc n) = f k + sum_from f (suc k) n

pub sum-from-none : (f : ℕ → ℕ) (k n : ℕ) → n ≡ 0 → sum_from f k n ≡ 0
unfolding sum_from
sum-from-none f k n e = ap (sum_from f k) e

pub sum-from-more : (f : ℕ → ℕ) (k n m : ℕ) → n ≡ suc m → sum_from f k n ≡ f k + sum_from f (suc k) m
unfolding sum_from
sum-from-more f k n m e = ap (sum_from f k) e

pub sum-below-from : (f : ℕ → ℕ) (k n : ℕ) → sum_below k f + sum_from f k n ≡ sum_below (k + n) f
unfolding sum_from
sum-below-from f k zero = let e : sum_below k f ≡ sum_below (k + 0) f = ap (λ m. sum_below m f) (omega arith) in omega (arith, e)
sum-below-from f k (suc n) =
    let a : sum_below (suc k) f + sum_from f (suc k) n ≡ sum_below (suc k + n) f = sum-below-from f (suc k) n in
    let e : sum_below (suc k + n) f ≡ sum_below (k + suc n) f = ap (λ m. sum_below m f) (omega arith) in
    omega (arith, a, e)

-- ---- what is left of a phase

-- the turns that bring a hart on before it waits or has finished, once no task is left to draw
pub drew_weight : Phase → ℕ → ℕ
drew_weight p v = if nat_lt v p.tasks then p.turns (Task v) + 5 else 2

pub asked_weight : Phase → ℕ → ℕ
asked_weight p g = if g == p.harts then p.turns Setup + 5 else p.turns Setup + 7

abbrev pub weight : Phase → Role → ℕ
weight p Before = p.turns Setup + 6
weight p (Asked g) = asked_weight p g
weight p Drawing = 3
weight p (Drew v) = drew_weight p v
weight p (Inside x j m) = j + 4
weight p Adding = 1
weight p Looking = 0
weight p (Looked g) = 0
weight p Leaving = 1
weight p Over = 0

drew-in : (p : Phase) (v : ℕ) → v < p.tasks → drew_weight p v ≡ p.turns (Task v) + 5
unfolding drew_weight
drew-in p v l = grind (arith, nat_tests)

drew-out : (p : Phase) (v : ℕ) → p.tasks ≤ v → drew_weight p v ≡ 2
unfolding drew_weight
drew-out p v l = grind (arith, nat_tests)

drew-some : (p : Phase) (v : ℕ) → 0 < drew_weight p v
drew-some p v = elim (cases_lt v p.tasks) [
  | inl l ↦ let a = drew-in p v l in omega (arith, a)
  | inr l ↦ let a = drew-out p v l in omega (arith, a)
]

asked-in : (p : Phase) (g : ℕ) → g ≡ p.harts → asked_weight p g ≡ p.turns Setup + 5
unfolding asked_weight
asked-in p g e = grind (arith, nat_tests)

asked-out : (p : Phase) (g : ℕ) → g ≢ p.harts → asked_weight p g ≡ p.turns Setup + 7
unfolding asked_weight
asked-out p g e = grind (arith, nat_tests)

asked-most : (p : Phase) (g : ℕ) → (5 ≤ asked_weight p g) × (asked_weight p g ≤ p.turns Setup + 7)
asked-most p g = elim (cases_eq g p.harts) [
  | inl e ↦ let a = asked-in p g e in (omega (arith, a), omega (arith, a))
  | inr e ↦ let a = asked-out p g e in (omega (arith, a), omega (arith, a))
]

-- a hart that has nothing left waits or has finished
pub no-weight : (p : Phase) (r : Role) → weight p r ≡ 0 → (r ≡ Over) ⊎ (has_added r ≡ 1)
no-weight p Before e = absurd (omega (arith, e))
no-weight p (Asked g) e = let a = (asked-most p g).0 in absurd (omega (arith, e, a))
no-weight p Drawing e = absurd (omega (arith, e))
no-weight p (Drew v) e = let a = drew-some p v in absurd (omega (arith, e, a))
no-weight p (Inside x j m) e = absurd (omega (arith, e))
no-weight p Adding e = absurd (omega (arith, e))
no-weight p Looking e = inr refl
no-weight p (Looked g) e = inr refl
no-weight p Leaving e = absurd (omega (arith, e))
no-weight p Over e = inl refl

-- the tasks from `top` on
abbrev task_turns : Phase → ℕ → ℕ
task_turns p t = p.turns (Task t) + 3

pub undrawn : Phase → ℕ → ℕ
undrawn p top = sum_from (task_turns p) top (p.tasks - top)

undrawn-more : (p : Phase) (top : ℕ) → top < p.tasks → undrawn p top ≡ p.turns (Task top) + 3 + undrawn p (top + 1)
unfolding undrawn
undrawn-more p top l =
    let a = sum-from-more (task_turns p) top (p.tasks - top) (p.tasks - suc top) (omega (arith, l)) in
    let e : sum_from (task_turns p) (suc top) (p.tasks - suc top) ≡ sum_from (task_turns p) (top + 1) (p.tasks - (top + 1)) =
    ap (λ m. sum_from (task_turns p) m (p.tasks - m)) (omega arith) in
    omega (arith, a, e)

undrawn-none : (p : Phase) (top : ℕ) → p.tasks ≤ top → undrawn p top ≡ 0
unfolding undrawn
undrawn-none p top l = sum-from-none (task_turns p) top (p.tasks - top) (omega (arith, l))

undrawn-all : (p : Phase) → undrawn p 0 ≡ sum_below p.tasks (task_turns p)
unfolding undrawn
undrawn-all p =
    let a : sum_from (task_turns p) 0 (p.tasks - 0) ≡ sum_from (task_turns p) 0 p.tasks = ap (sum_from (task_turns p) 0) (omega arith) in
    let b : 0 + sum_from (task_turns p) 0 p.tasks ≡ sum_below (0 + p.tasks) (task_turns p) = sum-below-from (task_turns p) 0 p.tasks in
    let e : sum_below (0 + p.tasks) (task_turns p) ≡ sum_below p.tasks (task_turns p) = ap (λ m. sum_below m (task_turns p)) (omega arith) in
    omega (arith, a, b, e)

-- ---- one role's turn

-- it brings the phase on, or the hart waits, or has finished
abbrev Brings : Phase → Role → ℕ → Role → ℕ → Type 0
Brings p r top r1 top1 =
    (weight p r1 + undrawn p top1 < weight p r + undrawn p top)
    ⊎ ((weight p r ≡ 0) × (weight p r1 ≡ 0) × (has_added r1 ≡ has_added r) × (top1 ≡ top))

less : (p : Phase) (r r1 : Role) (top top1 : ℕ) → top1 ≡ top → weight p r1 < weight p r → Brings p r top r1 top1
less p r r1 top top1 e l = inl (let a : undrawn p top1 ≡ undrawn p top = ap (undrawn p) e in omega (arith, a, l))

brings : (p : Phase) (top shut : ℕ) (r r1 : Role) (top1 : ℕ) → Becomes p top shut r r1 top1 → Brings p r top r1 top1
brings p top shut Before r1 top1 b =
    less p Before r1 top top1 b.0
    (let a : weight p r1 ≡ asked_weight p p.harts = ap (weight p) b.1 in let d = asked-in p p.harts refl in omega (arith, a, d))
brings p top shut (Asked g) r1 top1 b = less p (Asked g) r1 top top1 b.0 (elim b.1 [
  | inl x ↦ let a : weight p r1 ≡ p.turns Setup + 4 = ap (weight p) x.1.1 in let d = asked-in p g x.0 in omega (arith, a, d)
  | inr x ↦ let a : weight p r1 ≡ p.turns Setup + 6 = ap (weight p) x.1 in let d = asked-out p g x.0 in omega (arith, a, d)
])
brings p top shut Drawing r1 top1 b =
    let a : weight p r1 ≡ drew_weight p top = ap (weight p) b.1 in
    let u : undrawn p top1 ≡ undrawn p (top + 1) = ap (undrawn p) b.0 in
    elim (cases_lt top p.tasks) [
      | inl l ↦ inl (let d = drew-in p top l in let m = undrawn-more p top l in omega (arith, a, u, d, m))
      | inr l ↦ inl (let d = drew-out p top l in let m = undrawn-none p (top + 1) (omega (arith, l)) in omega (arith, a, u, d, m))
    ]
brings p top shut (Drew v) r1 top1 b = less p (Drew v) r1 top top1 b.0 (elim b.1 [
  | inl x ↦ let a : weight p r1 ≡ p.turns (Task v) + 4 = ap (weight p) x.1.1 in let d = drew-in p v x.0 in omega (arith, a, d)
  | inr y ↦ let d = drew-out p v y.0 in elim y.1 [
    | inl x ↦ let a : weight p r1 ≡ 1 = ap (weight p) x.1 in omega (arith, a, d)
    | inr x ↦ let a : weight p r1 ≡ 1 = ap (weight p) x.1 in omega (arith, a, d)
  ]
])
brings p top shut (Inside x zero m) r1 top1 b = less p (Inside x zero m) r1 top top1 b.0 (let a : weight p r1 ≡ 3 = ap (weight p) b.1 in omega (arith, a))
brings p top shut (Inside x (suc j) m) r1 top1 b =
    less p (Inside x (suc j) m) r1 top top1 b.0 (let a : weight p r1 ≡ j + 4 = ap (weight p) b.1.1 in omega (arith, a))
brings p top shut Adding r1 top1 b = less p Adding r1 top top1 b.0 (let a : weight p r1 ≡ 0 = ap (weight p) b.1 in omega (arith, a))
brings p top shut Looking r1 top1 b = inr (refl, ap (weight p) b.1, ap has_added b.1, b.0)
brings p top shut (Looked g) r1 top1 b = inr (refl, ap (weight p) b.1, ap has_added b.1, b.0)
brings p top shut Leaving r1 top1 b = less p Leaving r1 top top1 b.0 (let a : weight p r1 ≡ 0 = ap (weight p) b.1 in omega (arith, a))
brings p top shut Over r1 top1 b = inr (refl, ap (weight p) b.1, ap has_added b.1, b.0)

-- ---- all roles together

pub total-within : (f : Role → ℕ) (most : ℕ) (rs : List Role) → ((k : ℕ) (r : Role) → slice_get rs k ≡ Some r → f r ≤ most) → total f rs ≤ length rs * most
total-within f most [] g = omega arith
total-within f most (r ∷ rs) g = let a = g 0 r refl in let b = total-within f most rs (λ k q e. g (suc k) q e) in omega (arith, a, b)

come-most : (p : Phase) (r : Role) → weight p (come r) ≤ p.turns Setup + 7
come-most p r = elim (come-either r) [
  | inl e ↦ let a : weight p (come r) ≡ p.turns Setup + 6 = ap (weight p) e in omega (arith, a)
  | inr y ↦ let a : weight p (come r) ≡ asked_weight p y.0 = ap (weight p) y.1 in let d = (asked-most p y.0).1 in omega (arith, a, d)
]

pub come-total : (p : Phase) (rs : List Role) → total (weight p) (map come rs) ≤ length (map come rs) * (p.turns Setup + 7)
come-total p rs =
    total-within (weight p) (p.turns Setup + 7) (map come rs)
    (λ k q e. let x = come-role rs k q e in subst (λ y. weight p y ≤ p.turns Setup + 7) x.2 (come-most p x.0))

-- what is left of a phase that begins
pub begins-with : (p : Phase) (rs : List Role) → length rs ≡ p.harts → total (weight p) rs ≤ length rs * (p.turns Setup + 7)
    → total (weight p) rs + undrawn p 0 ≤ turns_of_phase p
begins-with p rs e l =
    let a = undrawn-all p in
    let b : length rs * (p.turns Setup + 7) ≡ p.harts * (p.turns Setup + 7) = ap (λ n. n * (p.turns Setup + 7)) e in
    omega (arith, a, b, l)

-- a turn of the hart k that brings nothing on: it is not there, or has nothing left, and no other role changes
pub record Idles (p : Phase) (k : ℕ) (roles rs : List Role) : Type 0 where
  pub added : total has_added rs ≡ total has_added roles
  pub waits : (r : Role) → slice_get roles k ≡ Some r → weight p r ≡ 0
  pub others : (j : ℕ) (r : Role) → k ≢ j → slice_get roles j ≡ Some r → slice_get rs j ≡ Some r

abbrev Lowers : Phase → ℕ → List Role → ℕ → List Role → ℕ → Type 0
Lowers p k roles top rs next =
    (total (weight p) rs + undrawn p next < total (weight p) roles + undrawn p top)
    ⊎ ((total (weight p) rs + undrawn p next ≡ total (weight p) roles + undrawn p top) × Idles p k roles rs)

-- ---- what is left of a program

-- the phases after the one under way
later : (ℕ → Phase) → ℕ → ℕ → ℕ
later ph last at = sum_from (λ c. turns_of_phase (ph c)) (suc at) (last - at)

later-more : (ph : ℕ → Phase) (last at : ℕ) → at < last → later ph last at ≡ turns_of_phase (ph (suc at)) + later ph last (suc at)
unfolding later
later-more ph last at l = sum-from-more (λ c. turns_of_phase (ph c)) (suc at) (last - at) (last - suc at) (omega (arith, l))

later-all : (ph : ℕ → Phase) (last : ℕ) → turns_of_phase (ph 0) + later ph last 0 ≡ sum_below (suc last) (λ c. turns_of_phase (ph c))
unfolding later
later-all ph last =
    let f : ℕ → ℕ = λ c. turns_of_phase (ph c) in
    let a : sum_from f 1 (last - 0) ≡ sum_from f 1 last = ap (sum_from f 1) (omega arith) in
    let b : 0 + f 0 + sum_from f 1 last ≡ sum_below (1 + last) f = sum-below-from f 1 last in
    let q : 1 + last ≡ suc last = omega arith in
    let e : sum_below (1 + last) f ≡ sum_below (suc last) f = ap (λ m. sum_below m f) q in
    omega (arith, a, b, e)

pub left : (ℕ → Phase) → ℕ → ℕ → List Role → ℕ → ℕ
left ph last at roles top = total (weight (ph at)) roles + undrawn (ph at) top + later ph last at

pub left-some : (ph : ℕ → Phase) (last at : ℕ) (roles : List Role) (top k : ℕ) (r : Role)
    → slice_get roles k ≡ Some r → weight (ph at) r ≤ left ph last at roles top
unfolding left
left-some ph last at roles top k r e = let a = total-some (weight (ph at)) roles k r e in omega (arith, a)
  where
    total-some : (f : Role → ℕ) (rs : List Role) (k : ℕ) (r : Role) → slice_get rs k ≡ Some r → f r ≤ total f rs
    total-some f [] k r e = absurd (cc e)
    total-some f (x ∷ rs) zero r e = let q : f x ≡ f r = ap f (let y : x ≡ r = cc e in y) in omega (arith, q)
    total-some f (x ∷ rs) (suc k) r e = let a = total-some f rs k r e in omega (arith, a)

-- at the start of the first phase
pub left-first : (ph : ℕ → Phase) (last : ℕ) (roles : List Role) → length roles ≡ (ph 0).harts
    → ((k : ℕ) (r : Role) → slice_get roles k ≡ Some r → weight (ph 0) r ≤ (ph 0).turns Setup + 7)
    → left ph last 0 roles 0 ≤ sum_below (suc last) (λ c. turns_of_phase (ph c))
unfolding left
left-first ph last roles e l =
    let a = begins-with (ph 0) roles e (total-within (weight (ph 0)) ((ph 0).turns Setup + 7) roles l) in
    let b = later-all ph last in
    omega (arith, a, b)

-- from one phase to the next
left-next : (ph : ℕ → Phase) (last at : ℕ) (rs : List Role) (old : ℕ) → at < last → length (map come rs) ≡ (ph (suc at)).harts → 0 < old
    → left ph last (suc at) (map come rs) 0 < old + later ph last at
unfolding left
left-next ph last at rs old l e some =
    let a = begins-with (ph (suc at)) (map come rs) e (come-total (ph (suc at)) rs) in
    let b = later-more ph last at l in
    omega (arith, a, b, some)

module _ (ph : ℕ → Phase) (last : ℕ) (g : Program ph last) where
  lowers : (s : State) (k : ℕ) (i : InProgram ph last s) (rs : List Role) (next : ℕ)
      → RolesAfter (ph i.at) i.phase.top s k i.phase.roles rs next → Lowers (ph i.at) k i.phase.roles i.phase.top rs next
  lowers s k i rs next (inl x) =
      let p = ph i.at in
      inr (
        let a : total (weight p) rs ≡ total (weight p) i.phase.roles = ap (total (weight p)) x.1 in
            let b : undrawn p next ≡ undrawn p i.phase.top = ap (undrawn p) x.2 in omega (arith, a, b),
        record {
          added = ap (total has_added) x.1;
          waits = λ r er. let h = found s.harts i.phase.roles k r (sym i.phase.inv.same) er in let q : Some h.0 ≡ None = sym h.1 ∙ x.0 in absurd (cc q);
          others = λ j r n e. subst (λ l. slice_get l j ≡ Some r) (sym x.1) e;
        },
      )
  lowers s k i rs next (inr x) =
      let p = ph i.at in
      let t = total-set (weight p) i.phase.roles k x.0 x.1 x.3 in
      let e : total (weight p) rs ≡ total (weight p) (set i.phase.roles k x.1) = ap (total (weight p)) x.4 in
      let u : undrawn p next ≡ undrawn p x.2 = ap (undrawn p) x.6 in
      elim (brings p i.phase.top (total has_added i.phase.roles) x.0 x.1 x.2 x.5) [
        | inl l ↦ inl (omega (arith, t, e, u, l))
        | inr w ↦ inr (
          let v : undrawn p x.2 ≡ undrawn p i.phase.top = ap (undrawn p) w.3 in let a = w.0 in let b = w.1 in omega (arith, t, e, u, v, a, b),
          record {
            added = ap (total has_added) x.4 ∙ total-same has_added i.phase.roles k x.0 x.1 x.3 (sym w.2);
            waits = λ r er. subst (λ y. weight p y ≡ 0) (same-get _ x.0 r x.3 er) w.0;
            others = λ j r n er. subst (λ l. slice_get l j ≡ Some r) (sym x.4) (slice_get-set_other i.phase.roles k j x.1 n ∙ er);
          },
        )
      ]

  abbrev pub left_at : (s : State) → InProgram ph last s → ℕ
  left_at s i = left ph last i.at i.phase.roles i.phase.top

  -- a turn lowers what is left, or brings nothing on
  abbrev pub After : (s : State) (k : ℕ) (i : InProgram ph last s) → InProgram ph last (turn s k) → Type 0
  After s k i j = (left_at (turn s k) j < left_at s i) ⊎ ((left_at (turn s k) j ≡ left_at s i) × (j.at ≡ i.at) × Idles (ph i.at) k i.phase.roles j.phase.roles)

  in-phase : (s : State) (k : ℕ) (i : InProgram ph last s) (w : Went ph last s k i)
      → (w.to.at ≡ i.at) × (w.to.phase.roles ≡ w.rs) × (w.to.phase.top ≡ w.next) → After s k i w.to
  unfolding left
  in-phase s k i w x =
      let e : left_at (turn s k) w.to ≡ left ph last i.at w.rs w.next =
      ap (λ c. left ph last c w.to.phase.roles w.to.phase.top) x.0 ∙ ap (λ l. left ph last i.at l w.to.phase.top) x.1 ∙ ap (left ph last i.at w.rs) x.2 in
      elim (lowers s k i w.rs w.next w.after) [
        | inl l ↦ inl (omega (arith, e, l))
        | inr y ↦ inr (let q = y.0 in omega (arith, e, q), x.0, subst (Idles (ph i.at) k i.phase.roles) (sym x.1) y.1)
      ]

  to-next : (s : State) (k : ℕ) (i : InProgram ph last s) (w : Went ph last s k i)
      → (w.to.at ≡ suc i.at) × (w.to.phase.roles ≡ map come w.rs) × (w.to.phase.top ≡ 0) × (length w.rs ≤ total has_added w.rs) → After s k i w.to
  unfolding left
  to-next s k i w x =
      let p = ph i.at in
      let e : left_at (turn s k) w.to ≡ left ph last (suc i.at) (map come w.rs) 0 =
      ap (λ c. left ph last c w.to.phase.roles w.to.phase.top) x.0 ∙ ap (λ l. left ph last (suc i.at) l w.to.phase.top) x.1
      ∙ ap (left ph last (suc i.at) (map come w.rs)) x.2 in
      let below : i.at < last = let a = x.0 in let b = w.to.within in omega (arith, a, b) in
      let many : length (map come w.rs) ≡ (ph (suc i.at)).harts =
      ap length (sym x.1) ∙ w.to.phase.inv.same ∙ w.to.phase.inv.many ∙ ap (λ c. (ph c).harts) x.0 in
      elim (lowers s k i w.rs w.next w.after) [
        | inl l ↦ inl (
            let n = left-next ph last i.at w.rs (total (weight p) i.phase.roles + undrawn p i.phase.top) below many (omega (arith, l)) in
            omega (arith, e, n))
        | inr y ↦ absurd (elim i.still_open [
          | inl z ↦ omega (arith, z, below)
          | inr z ↦
              let a = y.1.added in let b = x.3 in let c = length-come w.rs in let d = (g.follows i.at below).link.harts in
              omega (arith, z, a, b, c, d, many)
        ])
      ]

  pub after : (s : State) (k : ℕ) (i : InProgram ph last s) (w : Went ph last s k i) → After s k i w.to
  after s k i w = elim w.settled [ inl x ↦ in-phase s k i w x | inr x ↦ to-next s k i w x ]
