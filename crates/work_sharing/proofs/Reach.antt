-- Where a hart comes that is given turns alone.
use Rattle.multi_hart.specs.Run.{Within, is_in, State, turn, run}
use Rattle.std.proofs.Common.{◌≡◌, ℕ, zero, suc, ◌+◌, ◌<◌, ◌≤◌, List, [], ◌∷◌, ◌++◌, length, set, Some, Bool, true, false, refl, ap, ◌∙◌, sym, subst, arith}
use Rattle.std.proofs.Common.{inl, inr}
use Rattle.std.specs.Prelude.{◌⊎◌, ◌==◌, ◌||◌, if◌then◌else◌, slice_get}
use Rattle.std.proofs.lemmas.Bool.{cases_eq}
use Rattle.std.proofs.lemmas.Bool.Decides.{nat_tests}
use Rattle.memory.specs.Access.{Word, touched}
use Rattle.hart_core.specs.Scalar.{one_access}
use Rattle.multi_hart_laws.specs.Uses.{Job, Task, Setup}
use Rattle.work_sharing.specs.Phases.{Phase, Code, HasGate, HasEnd}
use Rattle.work_sharing.specs.Solo.{TaskDone}
use Rattle.work_sharing.specs.Programs.{Program}
use Rattle.multi_hart.proofs.Resting.{run-append}
use Rattle.hart_core.specs.HartState.{HartState}
use Rattle.work_sharing.specs.Turns.{or_known, last_written, is_word_in, written_next, OnlyBy, Name}
use Rattle.work_sharing.proofs.Roles.{Role, Before, Asked, Drawing, Drew, Inside, Adding, Looking, Looked, Leaving, Over, has_added, total, Holds}
use Rattle.work_sharing.proofs.Roles.{Inv, Turned}
use Rattle.work_sharing.proofs.Keeping.{found, slice_get-set_same}
use Rattle.work_sharing.proofs.Control.{hart-turn, gate-or-end, add-writes, added-most, total-most}

pub last-written-append : (x : ℕ) (known : List ℕ) (s : State) (xs ys : List ℕ) → last_written x known s (xs ++ ys) ≡ last_written x (last_written x known s xs)
    (run s xs) ys
last-written-append x known s [] ys = refl
last-written-append x known s (k ∷ xs) ys = last-written-append x (or_known (k == x) (written_next s k) known) (turn s k) xs ys

pub own-word : (own : Bool) (w : ℕ) (known : List ℕ) → own ≡ true → is_word_in w (or_known own (touched (one_access Word w)) known) ≡ true
own-word true w known e = let f : (w == w) ≡ true = grind (arith, nat_tests) in ap (λ b. (if b then true else is_in w ((w + 1) ∷ (w + 2) ∷ (w + 3) ∷ []))
    || is_in (w + 1) (touched (one_access Word w)) || is_in (w + 2) (touched (one_access Word w)) || is_in (w + 3) (touched (one_access Word w))) f
own-word false w known e = absurd (cc e)

pub only-append : (k : ℕ) (xs ys : List ℕ) → OnlyBy k xs → OnlyBy k ys → OnlyBy k (xs ++ ys)
only-append k [] ys a b = b
only-append k (x ∷ xs) ys a b = (a.0, only-append k xs ys a.1 b)

pub within-append : (P : ℕ → Type 0) (xs ys : List ℕ) → Within P xs → Within P ys → Within P (xs ++ ys)
within-append P [] ys a b = b
within-append P (x ∷ xs) ys a b = (a.0, within-append P xs ys a.1 b)

pub only-names : (n k : ℕ) (xs : List ℕ) → k < n → OnlyBy k xs → Name n xs
only-names n k [] l o = tt
only-names n k (x ∷ xs) l o = (let e = o.0 in omega (arith, l, e), only-names n k xs l o.1)

pub set-set : (rs : List Role) (k : ℕ) (a b : Role) → set (set rs k a) k b ≡ set rs k b
set-set [] k a b = refl
set-set (r ∷ rs) zero a b = refl
set-set (r ∷ rs) (suc k) a b = ap (λ l. r ∷ l) (set-set rs k a b)

pub set-get : (rs : List Role) (k : ℕ) (r : Role) → slice_get rs k ≡ Some r → set rs k r ≡ rs
set-get [] k r e = absurd (cc e)
set-get (x ∷ rs) zero r e = let q : r ≡ x = cc e in ap (λ y. y ∷ rs) q
set-get (x ∷ rs) (suc k) r e = ap (λ l. x ∷ l) (set-get rs k r e)

pub not-all : (rs : List Role) (k : ℕ) (r : Role) → slice_get rs k ≡ Some r → has_added r ≡ 0 → total has_added rs < length rs
not-all [] k r e z = absurd (cc e)
not-all (x ∷ rs) zero r e z = let q : has_added x ≡ has_added r = ap has_added (let y : x ≡ r = cc e in y) in let a = total-most has_added added-most rs in
    omega (arith, q, z, a)
not-all (x ∷ rs) (suc k) r e z = let a = not-all rs k r e z in let b = added-most x in omega (arith, a, b)

-- a list of turns after which the hart k has the role r1 and no other role has changed
pub record Got (z p : Phase) (roles : List Role) (k : ℕ) (r1 : Role) (top1 : ℕ) (s : State) : Type 0 where
  pub turns : List ℕ
  pub only : OnlyBy k turns
  pub inv : Inv z p (set roles k r1) top1 (run s turns)

module _ (z p : Phase) (c : Code p) (td : TaskDone p) (behind-it : HasGate p ⊎ HasEnd p) (k : ℕ) where
  module _ (roles : List Role) (r0 : Role) (e0 : slice_get roles k ≡ Some r0) where
    abbrev pub with : Role → List Role
    with r = set roles k r

    pub with-at : (r : Role) → slice_get (with r) k ≡ Some r
    with-at r = slice_get-set_same roles k r0 r e0

    pub one : (r : Role) (top : ℕ) (s : State) → Inv z p (with r) top s → (total has_added (with r) < p.harts) ⊎ HasEnd p
        → Turned z p (with r) top k r (turn s k)
    one r top s v so =
        let h = found s.harts (with r) k r (sym v.same) (with-at r) in
        hart-turn z p c behind-it td (with r) top s k h.0 v h.1 so r (with-at r)

    pub out : (r : Role) (top : ℕ) (s : State) → Inv z p (with r) top s → has_added r ≡ 0 → (total has_added (with r) < p.harts) ⊎ HasEnd p
    out r top s v e = let a = not-all (with r) k r (with-at r) e in let b = v.same in let d = v.many in inl (omega (arith, a, b, d))

    pub again : (r : Role) (top : ℕ) (s : State) (y : Turned z p (with r) top k r (turn s k)) (r1 : Role) (top1 : ℕ) → y.role ≡ r1 → y.top ≡ top1
        → Inv z p (with r1) top1 (turn s k)
    again r top s y r1 top1 e f = subst (λ q. Inv z p (with q) top1 (turn s k)) e (subst (λ n. Inv z p (with y.role) n (turn s k)) f
        (subst (λ l. Inv z p l y.top (turn s k)) (set-set roles k r y.role) y.inv))

    abbrev after : (r1 : Role) (top1 : ℕ) (s : State) → Got z p roles k r1 top1 (turn s k) → Got z p roles k r1 top1 s
    after r1 top1 s g = record { turns = k ∷ g.turns; only = (refl, g.only); inv = g.inv }

    abbrev past : (r1 r2 : Role) (top1 top2 : ℕ) (s : State) (g : Got z p roles k r1 top1 s) → Got z p roles k r2 top2 (run s g.turns)
        → Got z p roles k r2 top2 s
    past r1 r2 top1 top2 s g h = record {
      turns = g.turns ++ h.turns;
      only = only-append k g.turns h.turns g.only h.only;
      inv = subst (Inv z p (with r2) top2)
          (sym (run-append s g.turns h.turns)) h.inv;
    }

    from-inside : (x : Job) (j : ℕ) (m : List ℕ) (top : ℕ) (s : State) → Inv z p (with (Inside x j m)) top s → Got z p roles k Drawing top s
    from-inside x zero m top s v =
        let y = one (Inside x zero m) top s v (out (Inside x zero m) top s v refl) in
        after Drawing top s (record { turns = []; only = tt; inv = again (Inside x zero m) top s y Drawing top y.becomes.1 y.becomes.0 })
    from-inside x (suc j) m top s v =
        let y = one (Inside x (suc j) m) top s v (out (Inside x (suc j) m) top s v refl) in
        after Drawing top s (from-inside x j y.becomes.1.0 top (turn s k) (again (Inside x (suc j) m) top s y (Inside x j y.becomes.1.0) top y.becomes.1.1
        y.becomes.0))

    abbrev from-adding : (top : ℕ) (s : State) → Inv z p (with Adding) top s → Got z p roles k Looking top s
    from-adding top s v =
        let y = one Adding top s v (out Adding top s v refl) in
        after Looking top s (record { turns = []; only = tt; inv = again Adding top s y Looking top y.becomes.1 y.becomes.0 })

    -- the hart's last writing turn wrote the gate word
    abbrev Wrote : State → List ℕ → Type 0
    Wrote s turns = (known : List ℕ) → is_word_in p.gate (last_written k known s turns) ≡ true

    adding-wrote : (top : ℕ) (s : State) → Inv z p (with Adding) top s → Wrote s (k ∷ [])
    adding-wrote top s v known =
        let h = found s.harts (with Adding) k Adding (sym v.same) (with-at Adding) in
        ap (λ w. is_word_in p.gate (or_known (k == k) w known)) (add-writes z p c (with Adding) top s k h.0 v h.1 (with-at Adding))
        ∙ own-word (k == k) p.gate known (grind (arith, nat_tests))

    wrote-past : (s : State) (xs ys : List ℕ) → Wrote (run s xs) ys → Wrote s (xs ++ ys)
    wrote-past s xs ys w known = ap (is_word_in p.gate) (last-written-append k known s xs ys) ∙ w (last_written k known s xs)

    -- the hart has left the draw: it is at the gate, or at the last phase's end
    abbrev IsOut : Role → Type 0
    IsOut r = (HasGate p × (r ≡ Adding)) ⊎ (HasEnd p × (r ≡ Leaving))

    abbrev Out : State → Type 0
    Out s = (top1 : ℕ) × (r1 : Role) × Got z p roles k r1 top1 s × IsOut r1

    out-now : (r : Role) (top : ℕ) (s : State) → IsOut r → Inv z p (with r) top s → Out s
    out-now r top s o v = (top, r, record { turns = []; only = tt; inv = v }, o)

    then-out : (s : State) → Out (turn s k) → Out s
    then-out s h = (h.0, h.1, after h.1 h.0 s h.2, h.3)

    past-out : (r : Role) (top : ℕ) (s : State) (g : Got z p roles k r top s) → Out (run s g.turns) → Out s
    past-out r top s g h = (h.0, h.1, past r h.1 top h.0 s g h.2, h.3)

    from-drew : (v top : ℕ) (s : State) → Inv z p (with (Drew v)) top s → (v < p.tasks → (s1 : State) → Inv z p (with Drawing) top s1 → Out s1) → Out s
    from-drew v top s i next =
        let y = one (Drew v) top s i (out (Drew v) top s i refl) in
        elim y.becomes.1 [
          | inl a ↦
              let i1 = again (Drew v) top s y (Inside (Task v) (p.turns (Task v)) a.1.0) top a.1.1 y.becomes.0 in
              let g = from-inside (Task v) (p.turns (Task v)) a.1.0 top (turn s k) i1 in
              let h = next a.0 (run (turn s k) g.turns) g.inv in
              then-out s (past-out Drawing top (turn s k) g h)
          | inr b ↦ elim b.1 [
            | inl a ↦ then-out s (out-now Adding top (turn s k) (inl (a.0, refl)) (again (Drew v) top s y Adding top a.1 y.becomes.0))
            | inr a ↦ then-out s (out-now Leaving top (turn s k) (inr (a.0, refl)) (again (Drew v) top s y Leaving top a.1 y.becomes.0))
          ]
        ]

    pub drawn : (top : ℕ) (s : State) → Inv z p (with Drawing) top s → Inv z p (with (Drew top)) (top + 1) (turn s k)
    drawn top s i = let y = one Drawing top s i (out Drawing top s i refl) in again Drawing top s y (Drew top) (top + 1) y.becomes.1 y.becomes.0

    -- with as many tasks left
    from-drawing : (d top : ℕ) (s : State) → p.tasks ≤ top + d → Inv z p (with Drawing) top s → Out s
    from-drawing zero top s e i =
        let g = from-drew top (top + 1) (turn s k) (drawn top s i) (λ l. absurd (omega (arith, l, e))) in
        then-out s g
    from-drawing (suc d) top s e i =
        let g = from-drew top (top + 1) (turn s k) (drawn top s i) (λ l s1 i1. from-drawing d (top + 1) s1 (omega (arith, e)) i1) in
        then-out s g

    drawing : (top : ℕ) (s : State) → Inv z p (with Drawing) top s → Out s
    drawing top s i = from-drawing p.tasks top s (omega arith) i

    inside : (x : Job) (j : ℕ) (m : List ℕ) (top : ℕ) (s : State) → Inv z p (with (Inside x j m)) top s → Out s
    inside x j m top s i =
        let g = from-inside x j m top s i in
        let h = drawing top (run s g.turns) g.inv in
        past-out Drawing top s g h

    asked : (top : ℕ) (s : State) → Inv z p (with (Asked p.harts)) top s → Out s
    asked top s i =
        let y = one (Asked p.harts) top s i (out (Asked p.harts) top s i refl) in
        elim y.becomes.1 [
          | inl a ↦ let h = inside Setup (p.turns Setup) a.1.0 top (turn s k) (again (Asked p.harts) top s y (Inside Setup (p.turns Setup) a.1.0) top a.1.1
              y.becomes.0) in then-out s h
          | inr a ↦ absurd (a.0 refl)
        ]

    before : (top : ℕ) (s : State) → Inv z p (with Before) top s → Out s
    before top s i =
        let y = one Before top s i (out Before top s i refl) in
        let h = asked top (turn s k) (again Before top s y (Asked p.harts) top y.becomes.1 y.becomes.0) in
        then-out s h

    any-asked : (g top : ℕ) (s : State) → Inv z p (with (Asked g)) top s → Out s
    any-asked g top s i =
        let y = one (Asked g) top s i (out (Asked g) top s i refl) in
        elim y.becomes.1 [
          | inl a ↦ let h = inside Setup (p.turns Setup) a.1.0 top (turn s k) (again (Asked g) top s y (Inside Setup (p.turns Setup) a.1.0) top a.1.1
              y.becomes.0) in then-out s h
          | inr a ↦ let h = before top (turn s k) (again (Asked g) top s y Before top a.1 y.becomes.0) in then-out s h
        ]

    -- given turns alone a hart that has not left the draw leaves it
    abbrev IsIn : Role → Type 0
    IsIn Looking = ⊥
    IsIn (Looked g) = ⊥
    IsIn Over = ⊥
    IsIn _ = Unit {0}

    held : (r : Role) (top : ℕ) (s : State) → Inv z p (with r) top s → (h : HartState) × Holds z p top (total has_added (with r)) s.memory k h r
    held r top s v =
        let h = found s.harts (with r) k r (sym v.same) (with-at r) in
        (h.0, v.holds k r h.0 (with-at r) h.1)

    to-out : (r : Role) (top : ℕ) (s : State) → IsIn r → Inv z p (with r) top s → Out s
    to-out Before top s e i = before top s i
    to-out (Asked g) top s e i = any-asked g top s i
    to-out Drawing top s e i = drawing top s i
    to-out (Drew v) top s e i = from-drew v top s i (λ l s1 i1. drawing top s1 i1)
    to-out (Inside x j m) top s e i = inside x j m top s i
    to-out Adding top s e i = out-now Adding top s (inl ((held Adding top s i).1.1.1, refl)) i
    to-out Leaving top s e i = out-now Leaving top s (inr ((held Leaving top s i).1.1.1, refl)) i
    to-out Looking top s e i = absurd e
    to-out (Looked g) top s e i = absurd e
    to-out Over top s e i = absurd e

    -- ---- to a gate
    abbrev pub Gate : State → Type 0
    Gate s = (top1 : ℕ) × (got : Got z p roles k Looking top1 s) × Wrote s got.turns

    adding-gate : (top : ℕ) (s : State) → Inv z p (with Adding) top s → Gate s
    adding-gate top s v = (top, from-adding top s v, adding-wrote top s v)

    past-gate : (r : Role) (top : ℕ) (s : State) (g : Got z p roles k r top s) → Gate (run s g.turns) → Gate s
    past-gate r top s g h = (h.0, past r Looking top h.0 s g h.1, wrote-past s g.turns h.1.turns h.2)

    -- given turns alone a hart that has not added to the gate adds to it
    in-or-over : (r : Role) → has_added r ≡ 0 → IsIn r ⊎ (r ≡ Over)
    in-or-over Over e = inr refl
    in-or-over Looking e = absurd (omega (arith, e))
    in-or-over (Looked g) e = absurd (omega (arith, e))
    in-or-over Before e = inl tt
    in-or-over (Asked g) e = inl tt
    in-or-over Drawing e = inl tt
    in-or-over (Drew v) e = inl tt
    in-or-over (Inside x j m) e = inl tt
    in-or-over Adding e = inl tt
    in-or-over Leaving e = inl tt

    over-end : (top : ℕ) (s : State) → Inv z p (with Over) top s → HasEnd p
    over-end top s i = (held Over top s i).1.1.1

    pub to-gate : (r : Role) (top : ℕ) (s : State) → HasGate p → has_added r ≡ 0 → Inv z p (with r) top s → Gate s
    to-gate r top s hg e i = elim (in-or-over r e) [
      | inl a ↦
          let o = to-out r top s a i in
          let g = o.2 in
          elim o.3 [
            | inl x ↦ let g1 : Got z p roles k Adding o.0 s = subst (λ q. Got z p roles k q o.0 s) x.1 g in past-gate Adding o.0 s g1
                (adding-gate o.0 (run s g1.turns) g1.inv)
            | inr x ↦ absurd (gate-or-end p hg x.0)
          ]
      | inr a ↦ absurd (gate-or-end p hg (over-end top s (subst (λ q. Inv z p (with q) top s) a i)))
    ]

    -- ---- to the end of the last phase
    abbrev End : State → Type 0
    End s = (top1 : ℕ) × Got z p roles k Over top1 s

    leaving : (he : HasEnd p) (top : ℕ) (s : State) → Inv z p (with Leaving) top s → End s
    leaving he top s i = let y = one Leaving top s i (inr he) in
        (top, after Over top s (record { turns = []; only = tt; inv = again Leaving top s y Over top y.becomes.1 y.becomes.0 }))

    gate-of : (r : Role) (top : ℕ) (s : State) → has_added r ≡ 1 → Inv z p (with r) top s → HasGate p
    gate-of Looking top s e i = (held Looking top s i).1.1.1
    gate-of (Looked g) top s e i = (held (Looked g) top s i).1.1.1.1.1
    gate-of _ top s e i = absurd (omega (arith, e))

    from-out : HasEnd p → (r : Role) (top : ℕ) (s : State) → IsIn r → Inv z p (with r) top s → End s
    from-out he r top s a i =
        let o = to-out r top s a i in
        elim o.3 [
          | inl x ↦ absurd (gate-or-end p x.0 he)
          | inr x ↦
              let g1 : Got z p roles k Leaving o.0 s = subst (λ q. Got z p roles k q o.0 s) x.1 o.2 in
              let h = leaving he o.0 (run s g1.turns) g1.inv in
              (h.0, past Leaving Over o.0 h.0 s g1 h.1)
        ]

    pub to-end : HasEnd p → (r : Role) (top : ℕ) (s : State) → Inv z p (with r) top s → End s
    to-end he r top s i = elim (cases_eq (has_added r) 0) [
      | inl e ↦ elim (in-or-over r e) [
        | inl a ↦ from-out he r top s a i
        | inr a ↦ (top, record { turns = []; only = tt; inv = subst (λ q. Inv z p (with q) top s) a i })
      ]
      | inr n ↦ absurd (gate-or-end p (gate-of r top s (let b = added-most r in omega (arith, n, b)) i) he)
    ]

pub added-either : (r : Role) → (has_added r ≡ 0) ⊎ (has_added r ≡ 1)
added-either r = let a = added-most r in elim (cases_eq (has_added r) 0) [ inl e ↦ inl e | inr e ↦ inr (omega (arith, a, e)) ]

pub ones-total : (rs : List Role) → ((k : ℕ) (r : Role) → slice_get rs k ≡ Some r → has_added r ≡ 1) → total has_added rs ≡ length rs
ones-total [] f = refl
ones-total (r ∷ rs) f = let a = f 0 r refl in let b = ones-total rs (λ k q e. f (suc k) q e) in omega (arith, a, b)

module _ (z p : Phase) (c : Code p) (td : TaskDone p) (behind-it : HasGate p ⊎ HasEnd p) where
  pub as-set : (roles : List Role) (k : ℕ) (r : Role) (top : ℕ) (s : State) → slice_get roles k ≡ Some r → Inv z p roles top s → Inv z p (set roles k r) top s
  as-set roles k r top s e i = subst (λ l. Inv z p l top s) (sym (set-get roles k r e)) i

module _ (ph : ℕ → Phase) (last : ℕ) (g : Program ph last) where
  pub same-harts : (c : ℕ) → c ≤ last → (ph c).harts ≡ (ph 0).harts
  same-harts zero l = refl
  same-harts (suc c) l = sym (g.follows c (omega (arith, l))).link.harts ∙ same-harts c (omega (arith, l))

pub below : (a b : ℕ) → a ≤ b → (d : ℕ) × (a + d ≡ b)
below zero b l = (b, omega arith)
below (suc a) zero l = absurd (omega (arith, l))
below (suc a) (suc b) l = let r = below a b (omega (arith, l)) in let q = r.1 in (r.0, omega (arith, q))
