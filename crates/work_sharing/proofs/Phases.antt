-- From phase to phase.
use Rattle.std.proofs.Common.{◌≡◌, ℕ, zero, suc, ◌+◌, ◌<◌, ◌≤◌, List, [], ◌∷◌, length, set, Option, Some, None, refl, ap, ◌∙◌, sym, subst, arith, inl, inr}
use Rattle.std.specs.Prelude.{◌⊎◌, map, slice_get, replicate}
use Rattle.std.proofs.lemmas.Bool.{cases_eq, cases_lt}
use Rattle.std.specs.Int.{w32, from_le_bytes}
use Rattle.memory.specs.Access.{byte_at, word_at}
use Rattle.hart_core.specs.HartState.{HartState}
use Rattle.multi_hart.specs.Run.{State, turn, turned, run}
use Rattle.multi_hart_laws.specs.Uses.{Shared}
use Rattle.work_sharing.specs.Phases.{Phase, Code, HasGate, HasEnd}
use Rattle.work_sharing.specs.Solo.{Complete, TaskDone}
use Rattle.work_sharing.specs.Programs.{start_word, Fresh, Link, Follows, Program}
use Rattle.work_sharing.proofs.Roles.{Role, Before, Asked, Looking, Looked, Has, has_added, total, Holds, Inv, InPhase, Becomes, prior, InProgram}
use Rattle.work_sharing.proofs.Keeping.{found, same-get}
use Rattle.work_sharing.proofs.Control.{hart-turn, added-most, total-most}

pub come : Role → Role
come (Looked g) = Asked g
come _ = Before

pub all-ones : (f : Role → ℕ) → ((r : Role) → f r ≤ 1) → (rs : List Role) → length rs ≤ total f rs → (k : ℕ) (r : Role) → slice_get rs k ≡ Some r → f r ≡ 1
all-ones f le [] h k r e = absurd (cc e)
all-ones f le (x ∷ rs) h zero r e = let q : f x ≡ f r = ap f (let y : x ≡ r = cc e in y) in let a = le x in let b = total-most f le rs in
    omega (arith, q, a, b, h)
all-ones f le (x ∷ rs) h (suc k) r e = all-ones f le rs (let a = le x in omega (arith, a, h)) k r e

pub get-come : (rs : List Role) (k : ℕ) (r : Role) → slice_get rs k ≡ Some r → slice_get (map come rs) k ≡ Some (come r)
get-come [] k r e = absurd (cc e)
get-come (x ∷ rs) zero r e = let q : x ≡ r = cc e in ap (λ y. Some (come y)) q
get-come (x ∷ rs) (suc k) r e = get-come rs k r e

-- a role that comes is what another came to be
pub come-role : (rs : List Role) (k : ℕ) (q : Role) → slice_get (map come rs) k ≡ Some q → (r : Role) × (slice_get rs k ≡ Some r) × (come r ≡ q)
come-role [] k q e = absurd (cc e)
come-role (r ∷ rs) zero q e = (r, refl, cc e)
come-role (r ∷ rs) (suc k) q e = come-role rs k q e

pub come-either : (r : Role) → (come r ≡ Before) ⊎ ((g : ℕ) × (come r ≡ Asked g))
unfolding come
come-either (Looked g) = inr (g, refl)
come-either _ = inl refl

pub come-looking : come Looking ≡ Before
unfolding come
come-looking = refl

pub length-come : (rs : List Role) → length (map come rs) ≡ length rs
length-come [] = refl
length-come (r ∷ rs) = ap suc (length-come rs)

pub none-added : (r : Role) → has_added (come r) ≡ 0
unfolding come
none-added (Looked g) = refl
none-added _ = refl

pub total-come : (rs : List Role) → total has_added (map come rs) ≡ 0
total-come [] = refl
total-come (r ∷ rs) = let a = none-added r in let b = total-come rs in omega (arith, a, b)

has-none : (r : Role) (t : ℕ) → Has (come r) t → ⊥
unfolding come
has-none (Looked g) t e = e
has-none _ t e = e

pub each-of : {X : Type 0} (n : ℕ) (x y : X) (k : ℕ) → slice_get (replicate n x) k ≡ Some y → x ≡ y
each-of zero x y k e = absurd (cc e)
each-of (suc n) x y zero e = cc e
each-of (suc n) x y (suc k) e = each-of n x y k e

come-holds : (z q p : Phase) (top shut top1 shut1 : ℕ) (mem : List ℕ) (k : ℕ) (h : HartState) (r : Role) → Link q p → has_added r ≡ 1
    → Holds z q top shut mem k h r → Holds q p top1 shut1 mem k h (come r)
unfolding come
come-holds z q p top shut top1 shut1 mem k h Looking l e o = (l, o.0)
come-holds z q p top shut top1 shut1 mem k h (Looked g) l e o = (l, (o.0, o.1.0))
come-holds z q p top shut top1 shut1 mem k h _ l e o = absurd (omega (arith, e))

past-all : (z q : Phase) (top shut : ℕ) (mem : List ℕ) (k : ℕ) (h : HartState) (r : Role) → has_added r ≡ 1 → Holds z q top shut mem k h r → q.tasks < top
past-all z q top shut mem k h Looking e o = o.1.0
past-all z q top shut mem k h (Looked g) e o = o.1.1.1.0
past-all z q top shut mem k h _ e o = absurd (omega (arith, e))

added-has-none : (r : Role) (t : ℕ) → has_added r ≡ 1 → Has r t → ⊥
added-has-none Looking t e h = h
added-has-none (Looked g) t e h = h
added-has-none _ t e h = omega (arith, e)

pub first-of : {X : Type 0} (xs : List X) → 0 < length xs → (x : X) × (slice_get xs 0 ≡ Some x)
first-of [] h = absurd (omega arith)
first-of (x ∷ xs) h = (x, refl)

word-is : (q : Phase) (mem : List ℕ) (a : ℕ) → byte_at q.text mem a ≡ q.start a → byte_at q.text mem (a + 1) ≡ q.start (a + 1)
    → byte_at q.text mem (a + 2) ≡ q.start (a + 2) → byte_at q.text mem (a + 3) ≡ q.start (a + 3) → word_at q.text mem a ≡ start_word q a
word-is q mem a e f g h = ap (from_le_bytes w32) (ap (λ x. x ∷ byte_at q.text mem (a + 1) ∷ byte_at q.text mem (a + 2) ∷ byte_at q.text mem (a + 3) ∷ []) e
    ∙ ap (λ x. q.start a ∷ x ∷ byte_at q.text mem (a + 2) ∷ byte_at q.text mem (a + 3) ∷ []) f
    ∙ ap (λ x. q.start a ∷ q.start (a + 1) ∷ x ∷ byte_at q.text mem (a + 3) ∷ []) g ∙ ap (λ x. q.start a ∷ q.start (a + 1) ∷ q.start (a + 2) ∷ x ∷ []) h)

module _ (z q p : Phase) (s : State) (roles : List Role) (top : ℕ) (v : Inv z q roles top s) (full : q.harts ≤ total has_added roles) (some : 0 < q.harts)
    (f : Follows q p) where
  abbrev l : Link q p
  l = f.link

  ones : (k : ℕ) (r : Role) → slice_get roles k ≡ Some r → has_added r ≡ 1
  ones k r e = all-ones has_added added-most roles (let a = v.same in let b = v.many in omega (arith, a, b, full)) k r e

  all-drawn : q.tasks < top
  all-drawn =
      let h = first-of s.harts (let a = v.many in omega (arith, a, some)) in
      let r = found roles s.harts 0 h.0 v.same h.1 in
      past-all z q top (total has_added roles) s.memory 0 h.0 r.0 (ones 0 r.0 r.1) (v.holds 0 r.0 h.0 r.1 h.1)

  pub complete : (t : ℕ) → t < q.tasks → Complete q s.memory t
  complete t lt = elim (v.tasks t lt (let a = all-drawn in omega (arith, a, lt))) [
    | inl d ↦ absurd (added-has-none d.role t (ones d.by d.role d.at) d.has)
    | inr o ↦ o
  ]

  shared : (a : ℕ) → Shared (p.uses a) → byte_at p.text s.memory a ≡ p.start a
  shared a y = ap (λ t. byte_at t s.memory a) (sym l.text) ∙ elim (f.found a y) [
    | inl x ↦ v.fixed a x.0 ∙ sym x.1
    | inr x ↦ complete x.0 x.2 a x.1 ∙ sym x.3
  ]

  zero-word : (a : ℕ) → Fresh q a → word_at p.text s.memory a ≡ 0
  zero-word a y = ap (λ t. word_at t s.memory a) (sym l.text) ∙ word-is q s.memory a (v.fixed a y.first) (v.fixed (a + 1) y.second) (v.fixed (a + 2) y.third)
      (v.fixed (a + 3) y.fourth) ∙ y.zero

  come-at : (k : ℕ) (r1 : Role) (h : HartState) → slice_get (map come roles) k ≡ Some r1 → slice_get s.harts k ≡ Some h
      → (r : Role) × (slice_get roles k ≡ Some r) × (come r ≡ r1)
  come-at k r1 h er eh =
      let r = found roles s.harts k h v.same eh in
      (r.0, r.1, same-get _ (come r.0) r1 (get-come roles k r.0 r.1) er)

  come-only : (k : ℕ) (r1 : Role) → slice_get (map come roles) k ≡ Some r1 → (r : Role) × (come r ≡ r1)
  come-only k r1 er =
      let x = found roles (map come roles) k r1 (sym (length-come roles)) er in
      (x.0, same-get _ (come x.0) r1 (get-come roles k x.0 x.1) er)

  pub passed : Inv q p (map come roles) 0 s
  passed = record {
    text = v.text ∙ l.text;
    size = v.size ∙ l.size;
    bytes = v.bytes;
    many = v.many ∙ l.harts;
    same = length-come roles ∙ v.same;
    holds = λ k r1 h er eh.
        let x = come-at k r1 h er eh in
        subst (Holds q p 0 (total has_added (map come roles)) s.memory k h) x.2
        (come-holds z q p top (total has_added roles) 0 (total has_added (map come roles)) s.memory k h x.0 l (ones k x.0 x.1) (v.holds k x.0 h x.1 eh));
    one_each = λ k i r r2 t ne er eq hr hq. let x = come-only k r er in has-none x.0 t (subst (λ y. Has y t) (sym x.1) hr);
    tickets = zero-word p.ticket f.tickets;
    gates = zero-word p.gate f.gates ∙ sym (total-come roles);
    came = λ y. ap (λ t. word_at t s.memory q.gate) (sym l.text) ∙ v.gates ∙ (let a = total-most has_added added-most roles in let b = v.same in let c =
        v.many in let d = l.harts in omega (arith, a, b, c, d, full));
    bound = omega arith;
    fixed = λ a e. shared a (subst Shared (sym e) tt);
    waiting = λ a t e m. shared a (subst Shared (sym e) tt);
    tasks = λ t a b. absurd (omega (arith, b));
  }

-- ---- a turn of a program

-- the roles and the next number to draw after a turn of the hart k: none is there, or it has a new role
abbrev pub RolesAfter : Phase → ℕ → State → ℕ → List Role → List Role → ℕ → Type 0
RolesAfter p top s k roles rs next =
    ((slice_get s.harts k ≡ None) × (rs ≡ roles) × (next ≡ top))
    ⊎ ((r : Role) × (r1 : Role) × (top1 : ℕ) × (slice_get roles k ≡ Some r) × (rs ≡ set roles k r1) × Becomes p top (total has_added roles) r r1 top1
    × (next ≡ top1))

-- the phase stays, or its gate is full and the next one begins
abbrev pub Settled : ℕ → List Role → ℕ → ℕ → List Role → ℕ → Type 0
Settled c rs next at roles top =
    ((at ≡ c) × (roles ≡ rs) × (top ≡ next))
    ⊎ ((at ≡ suc c) × (roles ≡ map come rs) × (top ≡ 0) × (length rs ≤ total has_added rs))

pub record Went (ph : ℕ → Phase) (last : ℕ) (s : State) (k : ℕ) (i : InProgram ph last s) : Type 0 where
  pub to : InProgram ph last (turn s k)
  pub rs : List Role
  pub next : ℕ
  pub after : RolesAfter (ph i.at) i.phase.top s k i.phase.roles rs next
  pub settled : Settled i.at rs next to.at to.phase.roles to.phase.top

pub one-turn : (z p : Phase) (c : Code p) (behind : HasGate p ⊎ HasEnd p) (td : TaskDone p) (s : State) (k : ℕ) → (i : InPhase z p s)
    → (total has_added i.roles < p.harts) ⊎ HasEnd p → (o : Option HartState) → slice_get s.harts k ≡ o
    → (j : InPhase z p (turn s k)) × RolesAfter p i.top s k i.roles j.roles j.top
one-turn z p c behind td s k i so None e = (
  record { roles = i.roles; top = i.top; inv = subst (Inv z p i.roles i.top) (sym (ap (turned s k) e)) i.inv },
  inl
      (e, refl, refl),
)
one-turn z p c behind td s k i so (Some h) e =
    let f = found i.roles s.harts k h i.inv.same e in
    let y = hart-turn z p c behind td i.roles i.top s k h i.inv e so f.0 f.1 in
    (record { roles = set i.roles k y.role; top = y.top; inv = y.inv }, inr (f.0, y.role, y.top, f.1, refl, y.becomes, refl))

module _ (ph : ℕ → Phase) (last : ℕ) (g : Program ph last) where
  -- a gate after each phase but the last
  pub behind : (c : ℕ) → c ≤ last → HasGate (ph c) ⊎ HasEnd (ph c)
  behind c le = elim (cases_eq c last) [
    | inl e ↦ inr (subst (λ k. HasEnd (ph k)) (sym e) g.leave)
    | inr ne ↦ inl (g.follows c (omega (arith, le, ne))).link.waits
  ]

  pub settle : (s : State) (c : ℕ) → c ≤ last → (i : InPhase (prior ph c) (ph c) s) → (j : InProgram ph last s) × Settled c i.roles i.top j.at j.phase.roles
      j.phase.top
  settle s c le i = elim (cases_eq c last) [
    | inl e ↦ (record { at = c; within = le; phase = i; still_open = inl e }, inl (refl, refl, refl))
    | inr ne ↦ elim (cases_lt (total has_added i.roles) (ph c).harts) [
      | inl lt ↦ (record { at = c; within = le; phase = i; still_open = inr lt }, inl (refl, refl, refl))
      | inr full ↦
          let below : c < last = omega (arith, le, ne) in
          let to : InPhase (ph c) (ph (suc c)) s = record {
            roles = map come i.roles;
            top = 0;
            inv = passed (prior ph c) (ph c) (ph (suc c)) s i.roles i.top
                i.inv full (g.some c le) (g.follows c below);
          } in
          let none = total-come i.roles in
          let some = g.some (suc c) (omega (arith, below)) in
          let st : total has_added to.roles < (ph (suc c)).harts = omega (arith, none, some) in
          let all_added : length i.roles ≤ total has_added i.roles = let a = i.inv.same in let b = i.inv.many in omega (arith, a, b, full) in
          (record { at = suc c; within = omega (arith, below); phase = to; still_open = inr st }, inr (refl, refl, refl, all_added))
    ]
  ]

  pub one : (s : State) (k : ℕ) (i : InProgram ph last s) → Went ph last s k i
  one s k i =
      let p = ph i.at in
      let so : (total has_added i.phase.roles < p.harts) ⊎ HasEnd p =
      elim i.still_open [ inl e ↦ inr (subst (λ c. HasEnd (ph c)) (sym e) g.leave) | inr lt ↦ inl lt ] in
      let j = one-turn (prior ph i.at) p (g.code i.at i.within) (behind i.at i.within) (g.tasks i.at i.within) s k i.phase so (slice_get s.harts k) refl in
      let y = settle (turn s k) i.at i.within j.0 in
      record { to = y.0; rs = j.0.roles; next = j.0.top; after = j.1; settled = y.1 }

  unfoldable pub all : (s : State) (ks : List ℕ) → InProgram ph last s → InProgram ph last (run s ks)
  all s [] i = i
  all s (k ∷ ks) i = all (turn s k) ks (one s k i).to
