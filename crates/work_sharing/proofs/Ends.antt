-- What the invariant gives.
use Rattle.std.proofs.Common.{◌≡◌, ℕ, ◌<◌, List, Some, refl, ◌∙◌, sym, subst, arith, inl, inr}
use Rattle.std.specs.Prelude.{◌⊎◌, slice_get}
use Rattle.std.proofs.lemmas.Bool.{cases_lt}
use Rattle.rv_insn.specs.declared.instructions.Insn.{Insn}
use Rattle.memory.specs.Access.{byte_at}
use Rattle.hart_core.specs.declared.harts.Status.{Status}
use Rattle.hart_core.specs.declared.harts.Status.TheVariants.{Running, Finished as Done, Trapped as Stopped}
use Rattle.hart_core.specs.HartState.{HartState}
use Rattle.hart_core.specs.Turn.{Next, Does, if_running}
use Rattle.multi_hart.specs.Run.{State}
use Rattle.multi_hart_laws.specs.Uses.{Fixed}
use Rattle.work_sharing.specs.Phases.{Phase, HasEnd}
use Rattle.work_sharing.specs.Solo.{Complete}
use Rattle.work_sharing.specs.Programs.{Program}
use Rattle.work_sharing.proofs.Roles.{Role, Before, Asked, Drawing, Drew, Inside, Adding, Looking, Looked, Leaving, Over, Has, has_added, total}
use Rattle.work_sharing.proofs.Roles.{Holds, InPhase, prior, InProgram}
use Rattle.work_sharing.proofs.Keeping.{found}
use Rattle.work_sharing.proofs.Phases.{first-of}
use Rattle.work_sharing.proofs.Control.{gate-or-end}

-- no hart has trapped, and all have finished
abbrev pub Sound : State → Type 0
Sound s = (k : ℕ) (h : HartState) → slice_get s.harts k ≡ Some h → (h.status ≡ Running) ⊎ (h.status ≡ Done)

abbrev pub AllOver : State → Type 0
AllOver s = (k : ℕ) (h : HartState) → slice_get s.harts k ≡ Some h → h.status ≡ Done

awake : (st : Status) (n : Next) (i : Insn) → if_running st n ≡ Does i → st ≡ Running
awake Running n i e = refl
awake Done n i e = absurd (cc e)
awake (Stopped t) n i e = absurd (cc e)

-- a role but the last has a hart that runs
runs : (z p : Phase) (top shut : ℕ) (mem : List ℕ) (k : ℕ) (h : HartState) (r : Role) → Holds z p top shut mem k h r
    → (h.status ≡ Running) ⊎ ((h.status ≡ Done) × (r ≡ Over) × (p.tasks < top) × HasEnd p)
runs z p top shut mem k h Before o = inl o.1.running
runs z p top shut mem k h (Asked g) o = inl o.1.0.running
runs z p top shut mem k h Drawing o = inl o.running
runs z p top shut mem k h (Drew d) o = inl o.0.running
runs z p top shut mem k h (Inside t j m) o = let q = o.soon.0 in inl (awake _ _ q.insn q.does)
runs z p top shut mem k h Adding o = inl o.0.running
runs z p top shut mem k h Looking o = inl o.0.running
runs z p top shut mem k h (Looked g) o = inl o.0.running
runs z p top shut mem k h Leaving o = inl o.0.running
runs z p top shut mem k h Over o = inr (o.0, refl, o.1.0, o.1.1)

not-over : (r : Role) (t : ℕ) → r ≡ Over → Has r t → ⊥
not-over r t e h = subst (λ x. Has x t) e h

pub sound : (z p : Phase) (s : State) → InPhase z p s → Sound s
sound z p s i k h e =
    let f = found i.roles s.harts k h i.inv.same e in
    elim (runs z p i.top (total has_added i.roles) s.memory k h f.0 (i.inv.holds k f.0 h f.1 e)) [ inl x ↦ inl x | inr x ↦ inr x.0 ]

over-role : (z p : Phase) (s : State) (i : InPhase z p s) → AllOver s → (k : ℕ) (r : Role) (h : HartState) → slice_get i.roles k ≡ Some r
    → slice_get s.harts k ≡ Some h → (r ≡ Over) × (p.tasks < i.top) × HasEnd p
over-role z p s i a k r h er eh =
    elim (runs z p i.top (total has_added i.roles) s.memory k h r (i.inv.holds k r h er eh)) [
      | inl x ↦ let y : Running ≡ Done = sym x ∙ a k h eh in absurd (cc y)
      | inr x ↦ (x.1, x.2, x.3)
    ]

pub results : (z p : Phase) (s : State) → 0 < p.harts → (i : InPhase z p s) → AllOver s → HasEnd p × ((t : ℕ) → t < p.tasks → Complete p s.memory t)
results z p s some i a =
    let h = first-of s.harts (let q = i.inv.many in omega (arith, q, some)) in
    let r = found i.roles s.harts 0 h.0 i.inv.same h.1 in
    let o = over-role z p s i a 0 r.0 h.0 r.1 h.1 in (
      o.2,
      λ t lt.
          let below : t < i.top = let q = o.1 in omega (arith, q, lt) in
          elim (i.inv.tasks t lt below) [
            | inl d ↦ let g = found s.harts i.roles d.by d.role (sym i.inv.same) d.at in
                absurd (not-over d.role t (over-role z p s i a d.by d.role g.0 d.at g.1).0 d.has)
            | inr x ↦ x
          ],
    )

last-phase : (ph : ℕ → Phase) (last : ℕ) (g : Program ph last) (s : State) (i : InProgram ph last s) → AllOver s → i.at ≡ last
last-phase ph last g s i a = elim (cases_lt i.at last) [
  | inl lt ↦ let r = results (prior ph i.at) (ph i.at) s (g.some i.at i.within) i.phase a in let l = (g.follows i.at lt).link in
      absurd (gate-or-end (ph i.at) l.waits r.0)
  | inr le ↦ let q = i.within in omega (arith, q, le)
]

abbrev pub Ended : Phase → State → Type 0
Ended p s = ((t : ℕ) → t < p.tasks → Complete p s.memory t) × ((a : ℕ) → p.uses a ≡ Fixed → byte_at p.text s.memory a ≡ p.start a) × (s.text ≡ p.text)

pub at-end : (ph : ℕ → Phase) (last : ℕ) (g : Program ph last) (s : State) (i : InProgram ph last s) → AllOver s → Ended (ph last) s
at-end ph last g s i a =
    subst (λ c. Ended (ph c) s) (last-phase ph last g s i a) (
      (results (prior ph i.at) (ph i.at) s (g.some i.at i.within) i.phase a).1,
      i.phase.inv.fixed,
      i.phase.inv.text,
    )
