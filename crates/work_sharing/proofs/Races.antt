-- No race outside the control words.
use Rattle.multi_hart_laws.specs.Alone.{Says}
use Rattle.multi_hart.specs.Run.{Within, is_in, reads, writes, State, run}
use Rattle.std.proofs.Common.{◌≡◌, ℕ, suc, ◌+◌, ◌<◌, ◌≤◌, List, [], ◌∷◌, length, Option, Some, None, true, false, refl, ap, ◌∙◌, sym, subst, arith, inl, inr}
use Rattle.std.proofs.Common.{true≢false}
use Rattle.std.specs.Prelude.{◌≢◌, ◌==◌, slice_get, cond, pos}
use Rattle.std.proofs.lemmas.Bool.{cases_eq}
use Rattle.std.proofs.lemmas.Bool.Decides.{nat_tests}
use Rattle.rv_insn.specs.declared.outcomes.Trap.{Trap}
use Rattle.rv_insn.specs.declared.instructions.Insn.{Insn}
use Rattle.rv_insn.specs.declared.instructions.Insn.TheVariants.{AmoaddW, Branch, Load, Ecall}
use Rattle.rv_insn.specs.declared.operations.BranchOp.TheVariants.{Bgeu, Bne}
use Rattle.rv_insn.specs.declared.operations.LoadOp.TheVariants.{Lw}
use Rattle.memory.specs.Access.{fetched, Word, touched, read_by, written_by}
use Rattle.hart_core.specs.declared.harts.Status.TheVariants.{Running}
use Rattle.hart_core.specs.HartState.{HartState}
use Rattle.hart_core.specs.Scalar.{one_access, kind_of, accesses, plus}
use Rattle.hart_core.specs.Turn.{next_of, if_running, due, meant, judged, fault}
use Rattle.multi_hart_laws.specs.Uses.{Use, Control, Fixed, Owned, Private, Job, Task, Setup, MayRead, MayWrite}
use Rattle.work_sharing.specs.Phases.{Phase, IsControl, Code}
use Rattle.work_sharing.specs.Programs.{Link, Program, start}
use Rattle.work_sharing.specs.Turns.{written_by_one, control_words, Race}
use Rattle.work_sharing.proofs.Roles.{Role, Before, Asked, Drawing, Drew, Inside, Adding, Looking, Looked, Leaving, Over, Has, has_added, total}
use Rattle.work_sharing.proofs.Roles.{Holds, Inv, InPhase, prior, InProgram}
use Rattle.work_sharing.specs.Promises.{NeverRaces, RuleKept, RulesKept}
use Rattle.work_sharing.proofs.Keeping.{found, Touch, InWord, clash, inside-has, no-control-write, not-fixed}
use Rattle.work_sharing.proofs.Control.{gate-plus}
use Rattle.work_sharing.proofs.ControlBytes.{control-byte}
use Rattle.work_sharing.proofs.Start.{always}

-- what a role's turn may read
abbrev pub See : Phase → ℕ → Role → ℕ → Type 0
See p k (Inside x j m) a = MayRead x k (p.uses a)
See p k _ a = p.uses a ≡ Control

raw : (p : Phase) (h : HartState) (at : ℕ) (i : Insn) → h.status ≡ Running → h.pc ≡ at → Says p.text at i
    → next_of p.text p.size h ≡ judged i (fault (length p.text) p.size i h)
raw p h at i r c w =
    ap (λ st. if_running st (due (length p.text) p.size h (fetched p.text h.pc))) r
    ∙ ap (λ a. due (length p.text) p.size h (fetched p.text a)) c
    ∙ ap (due (length p.text) p.size h) w.fetched ∙ ap (meant (length p.text) p.size h) w.decoded

reads-judged : (P : ℕ → Type 0) (h : HartState) (i : Insn) (f : Option Trap) → Within P (touched (read_by (kind_of i) (accesses i h)))
    → Within P (reads (judged i f) h)
reads-judged P h i None w = w
reads-judged P h i (Some t) w = tt

writes-judged : (P : ℕ → Type 0) (h : HartState) (i : Insn) (f : Option Trap) → Within P (touched (written_by (kind_of i) (accesses i h)))
    → Within P (writes (judged i f) h)
writes-judged P h i None w = w
writes-judged P h i (Some t) w = tt

both : (P Q : ℕ → Type 0) (p : Phase) (h : HartState) (at : ℕ) (i : Insn) → h.status ≡ Running → h.pc ≡ at → Says p.text at i
    → Within P (touched (read_by (kind_of i) (accesses i h))) → Within Q (touched (written_by (kind_of i) (accesses i h)))
    → Within P (reads (next_of p.text p.size h) h) × Within Q (writes (next_of p.text p.size h) h)
both P Q p h at i r c w x y =
    let e = sym (raw p h at i r c w) in
    let f = fault (length p.text) p.size i h in
    (subst (λ n. Within P (reads n h)) e (reads-judged P h i f x), subst (λ n. Within Q (writes n h)) e (writes-judged Q h i f y))

control-word : (p : Phase) (a : ℕ) → IsControl p a → Within (λ x. p.uses x ≡ Control) (touched (one_access Word a))
control-word p a c = (c.first, (c.second, (c.third, (c.fourth, tt))))

in-word : (p : Phase) (a : ℕ) → IsControl p a → Within (InWord p a) (touched (one_access Word a))
in-word p a c = (
  (c.first, (omega arith, omega arith)),
  (
    (c.second, (omega arith, omega arith)),
    (
      (c.third, (omega arith, omega arith)),
      ((c.fourth, (omega arith, omega arith)), tt),
    ),
  ),
)

abbrev pub Both : Phase → ℕ → Role → HartState → Type 0
Both p k r h = Within (See p k r) (reads (next_of p.text p.size h) h) × Within (Touch p k r) (writes (next_of p.text p.size h) h)

says-to : (q p : Phase) (l : Link q p) (at : ℕ) (i : Insn) → Says q.text at i → Says p.text at i
says-to q p l at i w = subst (λ t. Says t at i) l.text w

pub touches : (z p : Phase) (c : Code p) (top shut : ℕ) (mem : List ℕ) (k : ℕ) (h : HartState) (r : Role) → Holds z p top shut mem k h r → Both p k r h
touches z p c top shut mem k h Before o =
    both (See p k Before) (Touch p k Before) p h (z.door + 4) (Load Lw 17 14 (pos 0)) o.1.running o.1.pc (says-to z p o.0 _ _ o.0.waits.look)
    (subst (λ a. Within (λ x. p.uses x ≡ Control) (touched (one_access Word a))) (sym (ap (λ n. plus n (pos 0)) o.1.kept.gate ∙ gate-plus z o.0.code))
    (control-word p z.gate o.0.gate)) tt
touches z p c top shut mem k h (Asked g) o = both (See p k (Asked g)) (Touch p k (Asked g)) p h (z.door + 8) (Branch Bne 17 11 o.0.waits.back) o.1.0.running
    o.1.0.pc (says-to z p o.0 _ _ o.0.waits.again) tt tt
touches z p c top shut mem k h Drawing o =
    both (See p k Drawing) (Touch p k Drawing) p h p.draw_code (AmoaddW 12 13 15 false false) o.running o.pc c.draw
    (subst (λ a. Within (λ x. p.uses x ≡ Control) (touched (one_access Word a))) (sym o.kept.ticket) (control-word p p.ticket c.tickets))
    (subst (λ a. Within (InWord p p.ticket) (touched (one_access Word a))) (sym o.kept.ticket) (in-word p p.ticket c.tickets))
touches z p c top shut mem k h (Drew v) o = both (See p k (Drew v)) (Touch p k (Drew v)) p h (p.draw_code + 4) (Branch Bgeu 12 16 c.out) o.0.running o.0.pc
    c.test tt tt
touches z p c top shut mem k h (Inside x j m) o =
    let q = o.soon.0 in (q.may_read, q.may_write)
touches z p c top shut mem k h Adding o =
    both (See p k Adding) (Touch p k Adding) p h p.door (AmoaddW 0 14 15 false false) o.0.running o.0.pc o.1.1.add
    (subst (λ a. Within (λ x. p.uses x ≡ Control) (touched (one_access Word a))) (sym o.0.kept.gate) (control-word p p.gate c.gates))
    (subst (λ a. Within (InWord p p.gate) (touched (one_access Word a))) (sym o.0.kept.gate) (in-word p p.gate c.gates))
touches z p c top shut mem k h Looking o =
    both (See p k Looking) (Touch p k Looking) p h (p.door + 4) (Load Lw 17 14 (pos 0)) o.0.running o.0.pc o.1.1.look
    (subst (λ a. Within (λ x. p.uses x ≡ Control) (touched (one_access Word a))) (sym (ap (λ n. plus n (pos 0)) o.0.kept.gate ∙ gate-plus p c))
    (control-word p p.gate c.gates)) tt
touches z p c top shut mem k h (Looked g) o = both (See p k (Looked g)) (Touch p k (Looked g)) p h (p.door + 8) (Branch Bne 17 11 o.1.1.1.1.back) o.0.running
    o.0.pc o.1.1.1.1.again tt tt
touches z p c top shut mem k h Leaving o = both (See p k Leaving) (Touch p k Leaving) p h p.door Ecall o.0.running o.0.pc o.1.1 tt tt
touches z p c top shut mem k h Over o =
    let e = sym (ap (λ st. if_running st (due (length p.text) p.size h (fetched p.text h.pc))) o.0) in
    subst (λ n. Within (See p k Over) (reads n h) × Within (Touch p k Over) (writes n h)) e (tt, tt)

write-reads : (x : Job) (k : ℕ) (u : Use) → MayWrite x k u → MayRead x k u
write-reads Setup k u w = w
write-reads (Task t) k Control w = w
write-reads (Task t) k Fixed w = tt
write-reads (Task t) k (Owned v) w = w
write-reads (Task t) k (Private l) w = w

-- a byte of the phase's two words
abbrev IsWord : Phase → ℕ → Type 0
IsWord p a = (p.ticket ≤ a) × (a < p.ticket + 8)

ticket-of : (p : Phase) (a : ℕ) → InWord p p.ticket a → IsWord p a
ticket-of p a o = let l = o.1.0 in let h = o.1.1 in (l, omega (arith, h))

gate-of : (p : Phase) (c : Code p) (a : ℕ) → InWord p p.gate a → IsWord p a
gate-of p c a o = let l = o.1.0 in let h = o.1.1 in let r = c.two_words in (omega (arith, l, r), omega (arith, h, r))

plain : (p : Phase) (c : Code p) (k : ℕ) (r : Role) (a : ℕ) → Touch p k r a → p.uses a ≡ Control → IsWord p a
plain p c k (Inside x j m) a w e = absurd (no-control-write x k (subst (MayWrite x k) e w))
plain p c k Drawing a w e = ticket-of p a w
plain p c k Adding a w e = gate-of p c a w
plain p c k Before a w e = absurd w
plain p c k (Asked g) a w e = absurd w
plain p c k (Drew g) a w e = absurd w
plain p c k Looking a w e = absurd w
plain p c k (Looked g) a w e = absurd w
plain p c k Leaving a w e = absurd w
plain p c k Over a w e = absurd w

-- one writes what the other reads
meet : (p : Phase) (c : Code p) (k l : ℕ) (r q : Role) (a : ℕ) → k ≢ l → ((t : ℕ) → Has r t → Has q t → ⊥) → Touch p k r a → See p l q a → IsWord p a
meet p c k l r (Inside x j m) a ne f w e = absurd (clash p k l r x a w e ne (λ t d g. f t d (inside-has x j m t g)))
meet p c k l r Before a ne f w e = plain p c k r a w e
meet p c k l r (Asked g) a ne f w e = plain p c k r a w e
meet p c k l r Drawing a ne f w e = plain p c k r a w e
meet p c k l r (Drew g) a ne f w e = plain p c k r a w e
meet p c k l r Adding a ne f w e = plain p c k r a w e
meet p c k l r Looking a ne f w e = plain p c k r a w e
meet p c k l r (Looked g) a ne f w e = plain p c k r a w e
meet p c k l r Leaving a ne f w e = plain p c k r a w e
meet p c k l r Over a ne f w e = plain p c k r a w e

touch-seen : (p : Phase) (k : ℕ) (q : Role) (a : ℕ) → Touch p k q a → See p k q a
touch-seen p k (Inside x j m) a w = write-reads x k (p.uses a) w
touch-seen p k Drawing a w = w.0
touch-seen p k Adding a w = w.0
touch-seen p k Before a w = absurd w
touch-seen p k (Asked g) a w = absurd w
touch-seen p k (Drew g) a w = absurd w
touch-seen p k Looking a w = absurd w
touch-seen p k (Looked g) a w = absurd w
touch-seen p k Leaving a w = absurd w
touch-seen p k Over a w = absurd w

pub in-within : (P : ℕ → Type 0) (a : ℕ) (ps : List ℕ) → is_in a ps ≡ true → Within P ps → P a
in-within P a [] e w = absurd (cc e)
in-within P a (b ∷ ps) e w = elim (cases_eq a b) [
  | inl q ↦ subst P (sym q) w.0
  | inr n ↦ let f : (a == b) ≡ false = grind (arith, nat_tests) in in-within P a ps (sym (ap (λ t. cond t true (is_in a ps)) f) ∙ e) w.1
]

-- what the next turn of a hart touches, by its role
pub reads-by : (z p : Phase) (c : Code p) (s : State) (roles : List Role) (top k : ℕ) (h : HartState) (r : Role) → Inv z p roles top s
    → slice_get roles k ≡ Some r → slice_get s.harts k ≡ Some h → Within (See p k r) (reads (next_of s.text (length s.memory) h) h)
reads-by z p c s roles top k h r v er eh =
    let x = (touches z p c top (total has_added roles) s.memory k h r (v.holds k r h er eh)).0 in
    subst (λ t. Within (See p k r) (reads (next_of t (length s.memory) h) h)) (sym v.text) (subst (λ n. Within (See p k r) (reads (next_of p.text n h) h))
    (sym v.size) x)

pub writes-by : (z p : Phase) (c : Code p) (s : State) (roles : List Role) (top k : ℕ) (h : HartState) (r : Role) → Inv z p roles top s
    → slice_get roles k ≡ Some r → slice_get s.harts k ≡ Some h → Within (Touch p k r) (writes (next_of s.text (length s.memory) h) h)
writes-by z p c s roles top k h r v er eh =
    let x = (touches z p c top (total has_added roles) s.memory k h r (v.holds k r h er eh)).1 in
    subst (λ t. Within (Touch p k r) (writes (next_of t (length s.memory) h) h)) (sym v.text) (subst (λ n. Within (Touch p k r) (writes (next_of p.text n h) h))
    (sym v.size) x)

no-race : (z p : Phase) (c : Code p) (control : List ℕ) (s : State) → InPhase z p s → (x : Race control s) → IsWord p x.place
no-race z p c control s i x =
    let v = i.inv in
    let fr = found i.roles s.harts x.first x.one v.same x.is_first in
    let fq = found i.roles s.harts x.second x.other v.same x.is_second in
    let apart : (t : ℕ) → Has fr.0 t → Has fq.0 t → ⊥ = λ t d e. v.one_each x.first x.second fr.0 fq.0 t x.apart fr.1 fq.1 d e in
    let w = in-within (Touch p x.first fr.0) x.place _ x.written (writes-by z p c s i.roles i.top x.first x.one fr.0 v fr.1 x.is_first) in
    meet p c x.first x.second fr.0 fq.0 x.place x.apart apart w (elim x.touched [
      | inl e ↦ in-within (See p x.second fq.0) x.place _ e (reads-by z p c s i.roles i.top x.second x.other fq.0 v fq.1 x.is_second)
      | inr e ↦ touch-seen p x.second fq.0 x.place (in-within (Touch p x.second fq.0) x.place _ e (writes-by z p c s i.roles i.top x.second x.other fq.0 v fq.1
          x.is_second))
    ])

pub never-races : NeverRaces
never-races ph last entry memory turns g o x =
    let i = always ph last entry memory turns g o in
    let w = no-race (prior ph i.at) (ph i.at) (g.code i.at i.within) (control_words (suc last)) (run (start (ph 0) entry memory) turns) i.phase x in
    let t = g.tickets i.at i.within in
    let a = w.0 in let b = w.1 in let l = i.within in
    true≢false (sym (control-byte (suc last) x.place (omega (arith, t, a, l)) (omega (arith, t, b, l))) ∙ x.no_control)

-- ---- each turn keeps the rule of a phase

kept-by : (z p : Phase) (k : ℕ) (r : Role) (top shut : ℕ) (mem : List ℕ) (h : HartState) → Holds z p top shut mem k h r → (a t : ℕ)
    → is_in a (writes (next_of p.text p.size h) h) ≡ true → p.uses a ≡ Owned t → Touch p k r a → p.rule t (writes (next_of p.text p.size h) h) ≡ true
kept-by z p k (Inside x j m) top shut mem h o a t i u w = o.soon.0.keeps a t i u
kept-by z p k Drawing top shut mem h o a t i u w = let q : Control ≡ Owned t = sym w.0 ∙ u in absurd (cc q)
kept-by z p k Adding top shut mem h o a t i u w = let q : Control ≡ Owned t = sym w.0 ∙ u in absurd (cc q)
kept-by z p k Before top shut mem h o a t i u w = absurd w
kept-by z p k (Asked g) top shut mem h o a t i u w = absurd w
kept-by z p k (Drew g) top shut mem h o a t i u w = absurd w
kept-by z p k Looking top shut mem h o a t i u w = absurd w
kept-by z p k (Looked g) top shut mem h o a t i u w = absurd w
kept-by z p k Leaving top shut mem h o a t i u w = absurd w
kept-by z p k Over top shut mem h o a t i u w = absurd w

module _ (ph : ℕ → Phase) (last : ℕ) (g : Program ph last) (s : State) (i : InProgram ph last s) (k : ℕ) where
  abbrev p : Phase
  p = ph i.at

  there : (h : HartState) → slice_get s.harts k ≡ Some h → RuleKept ph last (writes (next_of s.text (length s.memory) h) h)
  there h eh =
      let v = i.phase.inv in
      let f = found i.phase.roles s.harts k h v.same eh in
      let o = v.holds k f.0 h f.1 eh in
      let w = writes-by (prior ph i.at) p (g.code i.at i.within) s i.phase.roles i.phase.top k h f.0 v f.1 eh in
      let ps = writes (next_of s.text (length s.memory) h) h in
      let same : ps ≡ writes (next_of p.text p.size h) h = ap (λ t. writes (next_of t (length s.memory) h) h) v.text
      ∙ ap (λ n. writes (next_of p.text n h) h) v.size in
      let touch : (a : ℕ) → is_in a ps ≡ true → Touch p k f.0 a = λ a e. in-within (Touch p k f.0) a ps e w in
      record {
        k = i.at;
        within = i.within;
        no_fixed = λ a e u. not-fixed p k f.0 a u (touch a e);
        rule = λ a t e u. ap (p.rule t) same ∙ kept-by (prior ph i.at) p k f.0 i.phase.top (total has_added i.phase.roles) s.memory h o a t
            (ap (is_in a) (sym same) ∙ e) u (touch a e);
      }

  pub rule-kept : (o : Option HartState) → slice_get s.harts k ≡ o → RuleKept ph last (written_by_one s o)
  rule-kept None e = record { k = i.at; within = i.within; no_fixed = λ a y. absurd (cc y); rule = λ a t y. absurd (cc y) }
  rule-kept (Some h) e = there h e

pub rules-kept : RulesKept
rules-kept ph last entry memory turns g o k =
    let s = run (start (ph 0) entry memory) turns in
    rule-kept ph last g s (always ph last entry memory turns g o) k (slice_get s.harts k) refl
