-- What a hart has written of the gate words, along a run.
use Rattle.multi_hart.specs.Run.{Within, is_in, State, turn}
use Rattle.std.proofs.Common.{◌≡◌, ℕ, zero, suc, ◌+◌, ◌<◌, ◌≤◌, List, [], ◌∷◌, set, Some, Bool, true, false, refl, ap, ◌∙◌, sym, subst, arith, inl, inr}
use Rattle.std.specs.Prelude.{◌≢◌, ◌⊎◌, ◌==◌, ◌&&◌, ◌||◌, if◌then◌else◌, map, slice_get, cond}
use Rattle.std.proofs.lemmas.Bool.{cases_eq}
use Rattle.std.proofs.lemmas.Bool.Decides.{nat_tests}
use Rattle.memory.specs.Access.{Word, touched}
use Rattle.hart_core.specs.Scalar.{one_access}
use Rattle.multi_hart.proofs.Framing.{slice_get-set_other}
use Rattle.multi_hart_laws.specs.Uses.{Use, Control, Fixed, Owned, Private, Job, Task, Setup, MayWrite}
use Rattle.work_sharing.specs.Phases.{Phase}
use Rattle.work_sharing.specs.Programs.{Program, start, Opens}
use Rattle.work_sharing.specs.Turns.{gate_word, is_word_in, or_known, last_written, times_written, written_next, written_by_one}
use Rattle.work_sharing.proofs.Roles.{Role, Before, Asked, Drawing, Drew, Inside, Adding, Looking, Looked, Leaving, Over, has_added, total, Becomes}
use Rattle.work_sharing.proofs.Roles.{prior, InProgram}
use Rattle.work_sharing.specs.Programs.{OfNoTask}
use Rattle.work_sharing.specs.Promises.{GateOnce}
use Rattle.work_sharing.proofs.Keeping.{found, slice_get-set_same, Touch}
use Rattle.work_sharing.proofs.Control.{add-writes}
use Rattle.work_sharing.proofs.Phases.{come, none-added, RolesAfter, Went, one, all}
use Rattle.work_sharing.proofs.Start.{opening, opening-none}
use Rattle.work_sharing.proofs.Races.{writes-by}
use Rattle.work_sharing.proofs.Reach.{own-word}

eq-true : (a b : ℕ) → a ≡ b → (a == b) ≡ true
eq-true a b e = grind (arith, nat_tests)

eq-false : (a b : ℕ) → a ≢ b → (a == b) ≡ false
eq-false a b e = grind (arith, nat_tests)

-- ---- places that are not written

not-there : (P : ℕ → Type 0) (w : ℕ) (ps : List ℕ) → Within P ps → (P w → ⊥) → is_in w ps ≡ false
not-there P w [] a n = refl
not-there P w (q ∷ ps) a n = elim (cases_eq w q) [
  | inl e ↦ absurd (n (subst P (sym e) a.0))
  | inr e ↦ let f : (w == q) ≡ false = eq-false w q e in ap (λ b. cond b true (is_in w ps)) f ∙ not-there P w ps a.1 n
]

four : (a b c d : Bool) → a ≡ false → b ≡ false → c ≡ false → d ≡ false → (a || b || c || d) ≡ false
four false false false false ea eb ec ed = refl
four true b c d ea eb ec ed = absurd (cc ea)
four false true c d ea eb ec ed = absurd (cc eb)
four false false true d ea eb ec ed = absurd (cc ec)
four false false false true ea eb ec ed = absurd (cc ed)

pub no-word : (P : ℕ → Type 0) (w : ℕ) (ps : List ℕ) → Within P ps → ((b : ℕ) → w ≤ b → b < w + 4 → P b → ⊥) → is_word_in w ps ≡ false
no-word P w ps a n =
    four (is_in w ps) (is_in (w + 1) ps) (is_in (w + 2) ps) (is_in (w + 3) ps)
    (not-there P w ps a (n w (omega arith) (omega arith))) (not-there P (w + 1) ps a (n (w + 1) (omega arith) (omega arith)))
    (not-there P (w + 2) ps a (n (w + 2) (omega arith) (omega arith))) (not-there P (w + 3) ps a (n (w + 3) (omega arith) (omega arith)))

nothing : (ps : List ℕ) → Within (λ a. ⊥) ps → ps ≡ []
nothing [] w = refl
nothing (p ∷ ps) w = absurd w.0

no-task-write : (x : Job) (k : ℕ) (u : Use) → OfNoTask u → MayWrite x k u → ⊥
no-task-write Setup k u o w = w
no-task-write (Task t) k Control o w = w
no-task-write (Task t) k Fixed o w = w
no-task-write (Task t) k (Owned v) o w = o
no-task-write (Task t) k (Private l) o w = o

-- ---- which roles write a gate word

abbrev pub Adds : Role → Type 0
Adds Adding = Unit {0}
Adds _ = ⊥

pub added-grows : (p : Phase) (top shut : ℕ) (r r1 : Role) (top1 : ℕ) → Becomes p top shut r r1 top1 → has_added r ≤ has_added r1
added-grows p top shut Looking r1 top1 b = let q : has_added r1 ≡ 1 = ap has_added b.1 in omega (arith, q)
added-grows p top shut (Looked g) r1 top1 b = let q : has_added r1 ≡ 1 = ap has_added b.1 in omega (arith, q)
added-grows p top shut _ r1 top1 b = omega arith

-- a hart that has added had, or adds now
added-from : (p : Phase) (top shut : ℕ) (r r1 : Role) (top1 : ℕ) → Becomes p top shut r r1 top1 → has_added r1 ≡ 1 → (r ≡ Adding) ⊎ (has_added r ≡ 1)
added-from p top shut Before r1 top1 b e = let q : has_added r1 ≡ 0 = ap has_added b.1 in absurd (omega (arith, q, e))
added-from p top shut (Asked g) r1 top1 b e = elim b.1 [
  | inl x ↦ let q : has_added r1 ≡ 0 = ap has_added x.1.1 in absurd (omega (arith, q, e))
  | inr x ↦ let q : has_added r1 ≡ 0 = ap has_added x.1 in absurd (omega (arith, q, e))
]
added-from p top shut Drawing r1 top1 b e = let q : has_added r1 ≡ 0 = ap has_added b.1 in absurd (omega (arith, q, e))
added-from p top shut (Drew v) r1 top1 b e = elim b.1 [
  | inl x ↦ let q : has_added r1 ≡ 0 = ap has_added x.1.1 in absurd (omega (arith, q, e))
  | inr y ↦ elim y.1 [
    | inl x ↦ let q : has_added r1 ≡ 0 = ap has_added x.1 in absurd (omega (arith, q, e))
    | inr x ↦ let q : has_added r1 ≡ 0 = ap has_added x.1 in absurd (omega (arith, q, e))
  ]
]
added-from p top shut (Inside x zero m) r1 top1 b e = let q : has_added r1 ≡ 0 = ap has_added b.1 in absurd (omega (arith, q, e))
added-from p top shut (Inside x (suc j) m) r1 top1 b e = let q : has_added r1 ≡ 0 = ap has_added b.1.1 in absurd (omega (arith, q, e))
added-from p top shut Adding r1 top1 b e = inl refl
added-from p top shut Looking r1 top1 b e = inr refl
added-from p top shut (Looked g) r1 top1 b e = inr refl
added-from p top shut Leaving r1 top1 b e = let q : has_added r1 ≡ 0 = ap has_added b.1 in absurd (omega (arith, q, e))
added-from p top shut Over r1 top1 b e = let q : has_added r1 ≡ 0 = ap has_added b.1 in absurd (omega (arith, q, e))

-- and a hart that had writes nothing
added-quiet : (p : Phase) (k : ℕ) (r : Role) (ps : List ℕ) → has_added r ≡ 1 → Within (Touch p k r) ps → ps ≡ []
added-quiet p k Looking ps e w = nothing ps w
added-quiet p k (Looked g) ps e w = nothing ps w
added-quiet p k _ ps e w = absurd (omega (arith, e))

pub come-added : (rs : List Role) (k : ℕ) (q : Role) → slice_get (map come rs) k ≡ Some q → has_added q ≡ 0
come-added [] k q e = absurd (cc e)
come-added (r ∷ rs) zero q e = let y : come r ≡ q = cc e in sym (ap has_added y) ∙ none-added r
come-added (r ∷ rs) (suc k) q e = come-added rs k q e

or-other : (ps known : List ℕ) → or_known false ps known ≡ known
or-other [] known = refl
or-other (p ∷ ps) known = refl

abbrev pub mark : ℕ → ℕ → State → ℕ → ℕ
mark x c s k = if k == x && is_word_in (gate_word c) (written_next s k) then 1 else 0

mark-most : (x c : ℕ) (s : State) (k : ℕ) → mark x c s k ≤ 1
mark-most x c s k = go (k == x && is_word_in (gate_word c) (written_next s k))
  where
    go : (b : Bool) → cond b 1 0 ≤ 1
    go true = omega arith
    go false = omega arith

no-mark : (x c : ℕ) (s : State) (k : ℕ) → is_word_in (gate_word c) (written_next s k) ≡ false → mark x c s k ≡ 0
no-mark x c s k e = ap (λ b. cond (k == x && b) 1 0) e ∙ go (k == x)
  where
    go : (b : Bool) → ◌≡◌ {A = ℕ} (cond (b && false) 1 0) 0
    go true = refl
    go false = refl

other-mark : (x c : ℕ) (s : State) (k : ℕ) → k ≢ x → mark x c s k ≡ 0
other-mark x c s k n = let f : (k == x) ≡ false = eq-false k x n in ap (λ b. cond (b && is_word_in (gate_word c) (written_next s k)) 1 0) f

-- ---- what is known of the hart x at a place

pub record Seen (last x at : ℕ) (roles : List Role) (counts : ℕ → ℕ) (known : List ℕ) : Type 0 where
  pub most : (c : ℕ) → c ≤ last → counts c ≤ 1
  pub now : (q : Role) → slice_get roles x ≡ Some q → counts at ≤ has_added q
  pub later : (c : ℕ) → at < c → c ≤ last → counts c ≡ 0
  pub marked : (q : Role) → slice_get roles x ≡ Some q → has_added q ≡ 1 → is_word_in (gate_word at) known ≡ true

module _ (ph : ℕ → Phase) (last : ℕ) (g : Program ph last) where
  -- a byte of gate c is written in phase `at` only by a hart that adds, and only where c is `at`
  pub gate-untouched : (at c k : ℕ) → at ≤ last → c ≤ last → (r : Role) → ((r ≡ Adding) → c ≢ at) → (b : ℕ) → gate_word c ≤ b → b < gate_word c + 4
      → Touch (ph at) k r b → ⊥
  gate-untouched at c k la lc Drawing n b l h w = let x = w.1.0 in let y = w.1.1 in let t = g.tickets at la in omega (arith, x, y, t, l, h)
  gate-untouched at c k la lc Adding n b l h w = n refl (let x = w.1.0 in let y = w.1.1 in let t = g.tickets at la in let u = (g.code at la).two_words in
      omega (arith, x, y, t, u, l, h))
  gate-untouched at c k la lc (Inside x j m) n b l h w = no-task-write x k ((ph at).uses b) (g.control at b la (omega (arith, l), omega (arith, h, lc))) w
  gate-untouched at c k la lc Before n b l h w = w
  gate-untouched at c k la lc (Asked v) n b l h w = w
  gate-untouched at c k la lc (Drew v) n b l h w = w
  gate-untouched at c k la lc Looking n b l h w = w
  gate-untouched at c k la lc (Looked v) n b l h w = w
  gate-untouched at c k la lc Leaving n b l h w = w
  gate-untouched at c k la lc Over n b l h w = w

  -- what a hart with a role writes next
  pub writes-role : (s : State) (i : InProgram ph last s) (k : ℕ) (r : Role) → slice_get i.phase.roles k ≡ Some r
      → Within (Touch (ph i.at) k r) (written_next s k)
  writes-role s i k r er =
      let v = i.phase.inv in
      let h = found s.harts i.phase.roles k r (sym v.same) er in
      subst (λ o. Within (Touch (ph i.at) k r) (written_by_one s o)) (sym h.1) (writes-by (prior ph i.at) (ph i.at) (g.code i.at i.within) s i.phase.roles
      i.phase.top k h.0 r v er h.1)

  gate-unwritten : (s : State) (i : InProgram ph last s) (k c : ℕ) (r : Role) → slice_get i.phase.roles k ≡ Some r → c ≤ last → ((r ≡ Adding) → c ≢ i.at)
      → is_word_in (gate_word c) (written_next s k) ≡ false
  gate-unwritten s i k c r er lc n = no-word (Touch (ph i.at) k r) (gate_word c) (written_next s k) (writes-role s i k r er) (λ b l h. gate-untouched i.at c k
      i.within lc r n b l h)

  module _ (x : ℕ) (counts : ℕ → ℕ) (known : List ℕ) (s : State) (k : ℕ) (i : InProgram ph last s) (f : Seen last x i.at i.phase.roles counts known) where
    abbrev counts1 : ℕ → ℕ
    counts1 c = counts c + mark x c s k

    abbrev known1 : List ℕ
    known1 = or_known (k == x) (written_next s k) known

    -- where nothing is marked
    unmarked : (rs : List Role) → ((c : ℕ) → c ≤ last → mark x c s k ≡ 0) → known1 ≡ known → ((q : Role) → slice_get rs x ≡ Some q
        → slice_get i.phase.roles x ≡ Some q) → Seen last x i.at rs counts1 known1
    unmarked rs m e same = record {
      most = λ c l. let a = m c l in let b = f.most c l in omega (arith, a, b);
      now = λ q eq. let a = m i.at i.within in let b = f.now q (same q eq) in omega (arith, a, b);
      later = λ c a l. let y = m c l in let b = f.later c a l in omega (arith, y, b);
      marked = λ q eq a. ap (is_word_in (gate_word i.at)) e ∙ f.marked q (same q eq) a;
    }

    own-turn : (r r1 : Role) (top1 : ℕ) → k ≡ x → slice_get i.phase.roles k ≡ Some r → Becomes (ph i.at) i.phase.top (total has_added i.phase.roles) r r1 top1
        → Seen last x i.at (set i.phase.roles k r1) counts1 known1
    own-turn r r1 top1 ex er b =
        let rx : slice_get i.phase.roles x ≡ Some r = subst (λ y. slice_get i.phase.roles y ≡ Some r) ex er in
        let there : (q : Role) → slice_get (set i.phase.roles k r1) x ≡ Some q → r1 ≡ q = λ q eq. let u : slice_get (set i.phase.roles k r1) x ≡ Some r1 =
        subst (λ y. slice_get (set i.phase.roles k r1) y ≡ Some r1) ex (slice_get-set_same i.phase.roles k r r1 er) in cc in
        let own : (k == x) ≡ true = eq-true k x ex in
        let other : (c : ℕ) → c ≤ last → ((r ≡ Adding) → c ≢ i.at) → mark x c s k ≡ 0 = λ c l n. no-mark x c s k (gate-unwritten s i k c r er l n) in
        let here : counts1 i.at ≤ has_added r1 = elim (adds-or r) [
          | inl a ↦ let y = f.now r rx in let z : has_added r ≡ 0 = ap has_added a in let w : has_added r1 ≡ 1 =
              ap has_added ((subst (λ q. Becomes (ph i.at) i.phase.top (total has_added i.phase.roles) q r1 top1) a b).1) in let m = mark-most x i.at s k in
              omega (arith, y, z, w, m)
          | inr a ↦ let y = f.now r rx in let z = added-grows (ph i.at) i.phase.top (total has_added i.phase.roles) r r1 top1 b in let m =
              other i.at i.within (λ e. absurd (a e)) in omega (arith, y, z, m)
        ] in record {
          most = λ c l. elim (cases_eq c i.at) [
            | inl e ↦ let z = added-one r1 in let y : counts1 c ≡ counts1 i.at = ap counts1 e in omega (arith, here, z, y)
            | inr e ↦ let m = other c l (λ a. e) in let y = f.most c l in omega (arith, m, y)
          ];
          now = λ q eq. subst (λ y. counts1 i.at ≤ has_added y) (there q eq) here;
          later = λ c a l. let m = other c l (λ u e. omega (arith, a, e)) in let y = f.later c a l in omega (arith, m, y);
          marked = λ q eq a. elim (added-from (ph i.at) i.phase.top (total has_added i.phase.roles) r r1 top1 b (ap has_added (there q eq) ∙ a)) [
            | inl e ↦ gate-marked (subst (λ y. slice_get i.phase.roles k ≡ Some y) e er) own
            | inr e ↦ ap (λ ps. is_word_in (gate_word i.at) (or_known (k == x) ps known)) (added-quiet (ph i.at) k r (written_next s k) e
                (writes-role s i k r er)) ∙ f.marked r rx e
          ];
        }
      where
        adds-or : (r : Role) → (r ≡ Adding) ⊎ (r ≢ Adding)
        adds-or Adding = inl refl
        adds-or Before = inr (λ e. cc e)
        adds-or (Asked v) = inr (λ e. cc e)
        adds-or Drawing = inr (λ e. cc e)
        adds-or (Drew v) = inr (λ e. cc e)
        adds-or (Inside t j m) = inr (λ e. cc e)
        adds-or Looking = inr (λ e. cc e)
        adds-or (Looked v) = inr (λ e. cc e)
        adds-or Leaving = inr (λ e. cc e)
        adds-or Over = inr (λ e. cc e)

        added-one : (r : Role) → has_added r ≤ 1
        added-one Looking = omega arith
        added-one (Looked v) = omega arith
        added-one _ = omega arith

        gate-marked : slice_get i.phase.roles k ≡ Some Adding → (k == x) ≡ true → is_word_in (gate_word i.at) known1 ≡ true
        gate-marked e own =
            let v = i.phase.inv in
            let h = found s.harts i.phase.roles k Adding (sym v.same) e in
            let t : (ph i.at).gate ≡ gate_word i.at = let a = g.tickets i.at i.within in let u = (g.code i.at i.within).two_words in omega (arith, a, u) in
            ap (λ ps. is_word_in (gate_word i.at) (or_known (k == x) ps known)) (add-writes (prior ph i.at) (ph i.at) (g.code i.at i.within) i.phase.roles
            i.phase.top s k h.0 v h.1 e)
            ∙ subst (λ w. is_word_in w (or_known (k == x) (touched (one_access Word (ph i.at).gate)) known) ≡ true) t (own-word (k == x) (ph i.at).gate known
            own)

    after-turn : (rs : List Role) (next : ℕ) → RolesAfter (ph i.at) i.phase.top s k i.phase.roles rs next → Seen last x i.at rs counts1 known1
    after-turn rs next (inl e) =
        let none : written_next s k ≡ [] = ap (written_by_one s) e.0 in
        unmarked rs (λ c l. no-mark x c s k (ap (is_word_in (gate_word c)) none)) (ap (λ ps. or_known (k == x) ps known) none)
        (λ q eq. subst (λ l. slice_get l x ≡ Some q) e.1 eq)
    after-turn rs next (inr e) = elim (cases_eq k x) [
      | inl y ↦ subst (λ l. Seen last x i.at l counts1 known1) (sym e.4) (own-turn e.0 e.1 e.2 y e.3 e.5)
      | inr n ↦
          let f1 : (k == x) ≡ false = eq-false k x n in
          unmarked rs (λ c l. other-mark x c s k n) (ap (λ b. or_known b (written_next s k) known) f1 ∙ or-other (written_next s k) known)
          (λ q eq. sym (slice_get-set_other i.phase.roles k x e.1 n) ∙ subst (λ l. slice_get l x ≡ Some q) e.4 eq)
    ]

    settled : (w : Went ph last s k i) → Seen last x w.to.at w.to.phase.roles counts1 known1
    settled w = elim w.settled [
      | inl e ↦ subst (λ a. Seen last x a w.to.phase.roles counts1 known1) (sym e.0) (subst (λ l. Seen last x i.at l counts1 known1) (sym e.1)
          (after-turn w.rs w.next w.after))
      | inr e ↦
          let o = after-turn w.rs w.next w.after in
          let in1 : suc i.at ≤ last = let a = e.0 in let b = w.to.within in omega (arith, a, b) in
          let none : (q : Role) → slice_get w.to.phase.roles x ≡ Some q
          → has_added q ≡ 0 = λ q eq. come-added w.rs x q (subst (λ l. slice_get l x ≡ Some q) e.1 eq) in
          record {
            most = o.most;
            now = λ q eq. let a = o.later (suc i.at) (omega arith) in1 in let y : counts1 w.to.at ≡ counts1 (suc i.at) = ap counts1 e.0 in omega (arith, a, y);
            later = λ c a l. o.later c (let y = e.0 in omega (arith, a, y)) l;
            marked = λ q eq a. let z = none q eq in absurd (omega (arith, a, z));
          }
    ]

  -- a run adds to the counts, and tells what was written last
  pub seen-run : (x : ℕ) (ks : List ℕ) (counts : ℕ → ℕ) (known : List ℕ) (s : State) (i : InProgram ph last s) → Seen last x i.at i.phase.roles counts known
      → ((c : ℕ) → c ≤ last → counts c + times_written x (gate_word c) s ks ≤ 1)
      × ((q : Role) → slice_get (all ph last g s ks i).phase.roles x ≡ Some q → has_added q ≡ 1
      → is_word_in (gate_word (all ph last g s ks i).at) (last_written x known s ks) ≡ true)
  unfolding all
  seen-run x [] counts known s i f = (λ c l. let a = f.most c l in omega (arith, a), f.marked)
  seen-run x (k ∷ ks) counts known s i f =
      let w = one ph last g s k i in
      let r = seen-run x ks (λ c. counts c + mark x c s k) (or_known (k == x) (written_next s k) known) (turn s k) w.to (settled x counts known s k i f w) in
      (λ c l. let a = r.0 c l in more c a, r.1)
    where
      more : (c : ℕ) → (counts c + mark x c s k) + times_written x (gate_word c) (turn s k) ks ≤ 1 → counts c + times_written x (gate_word c) s (k ∷ ks) ≤ 1
      more c a = omega (arith, a)

  pub first-seen : (x entry : ℕ) (memory : List ℕ) (o : Opens (ph 0) entry memory)
      → Seen last x (opening ph last entry memory g o).at (opening ph last entry memory g o).phase.roles (λ c. 0) []
  first-seen x entry memory o = record {
    most = λ c l. omega arith;
    now = λ q e. omega arith;
    later = λ c a l. refl;
    marked = λ q e a. let z = opening-none ph last entry memory g o x q e in absurd (omega (arith, a, z));
  }

pub gate-once : GateOnce
gate-once ph last entry memory turns g o k hart l =
    let a = (seen-run ph last g hart turns (λ c. 0) [] (start (ph 0) entry memory) (opening ph last entry memory g o) (first-seen ph last g hart entry memory
    o)).0 k l in omega (arith, a)
