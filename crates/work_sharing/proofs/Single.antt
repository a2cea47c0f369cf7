-- One hart, given turns alone.
use Rattle.std.proofs.Common.{◌≡◌, ℕ, zero, suc, ◌+◌, ◌<◌, ◌≤◌, List, [], ◌∷◌, ◌++◌, length, set, Some, true, refl, ap, ◌∙◌, sym, subst, arith, inl, inr}
use Rattle.std.specs.Prelude.{◌⊎◌, map, slice_get}
use Rattle.std.proofs.lemmas.Bool.{cases_eq, cases_lt}
use Rattle.memory.specs.Access.{word_at}
use Rattle.hart_core.specs.declared.harts.Status.TheVariants.{Finished as Done}
use Rattle.hart_core.specs.HartState.{HartState}
use Rattle.multi_hart.specs.Run.{State, run}
use Rattle.work_sharing.specs.Phases.{Phase, HasGate, HasEnd}
use Rattle.work_sharing.specs.Programs.{Program, start}
use Rattle.work_sharing.specs.Turns.{gate_word, is_word_in, last_written, OnlyBy}
use Rattle.work_sharing.specs.Promises.{AloneStops}
use Rattle.multi_hart.proofs.Resting.{run-append}
use Rattle.multi_hart.proofs.TurnByTurn.{shape-run}
use Rattle.work_sharing.proofs.Keeping.{slice_get-set_same}
use Rattle.work_sharing.proofs.Phases.{passed, come, get-come, none-added, behind, all}
use Rattle.work_sharing.proofs.Start.{opening, length-opening}
use Rattle.work_sharing.proofs.Reach.{to-gate, to-end, as-set, added-either, last-written-append, only-append, below}
use Rattle.work_sharing.proofs.Gates.{seen-run, first-seen}
use Rattle.work_sharing.proofs.Roles.{Role, Looking, Over, has_added, total, Inv, prior}

abbrev Ends : State → ℕ → Type 0
Ends s k = (h : HartState) → slice_get s.harts k ≡ Some h → h.status ≡ Done

module _ (ph : ℕ → Phase) (last : ℕ) (pr : Program ph last) (k : ℕ) where
  -- a gate that isn't full was written last
  abbrev Still : State → List ℕ → ℕ → Type 0
  Still s known c = (c < last) × ((is_word_in (gate_word c) known ≡ true) × (word_at s.text s.memory (gate_word c) < length s.harts))

  abbrev Stops : State → List ℕ → Type 0
  Stops s known = (more : List ℕ) × OnlyBy k more × (((c : ℕ) × Still (run s more) (last_written k known s more) c) ⊎ Ends (run s more) k)

  -- more turns in front
  before : (s : State) (known xs : List ℕ) → OnlyBy k xs → Stops (run s xs) (last_written k known s xs) → Stops s known
  before s known xs o r = (
    xs ++ r.0,
    only-append k xs r.0 o r.1,
    subst (λ w. ((c : ℕ) × Still (run s (xs ++ r.0)) w c) ⊎ Ends (run s (xs ++ r.0)) k) (sym (last-written-append k known s xs r.0))
        (subst (λ y. ((c : ℕ) × Still y (last_written k (last_written k known s xs) (run s xs) r.0) c) ⊎ Ends y k) (sym (run-append s xs r.0)) r.2),
  )

  gate-is : (at : ℕ) → at ≤ last → (ph at).gate ≡ gate_word at
  gate-is at le = let a = pr.tickets at le in let b = (pr.code at le).two_words in omega (arith, a, b)

  abbrev Further : ℕ → ℕ → Type 0
  Further d at = (s : State) (known : List ℕ) (e : ℕ) → d ≡ suc e → (rs : List Role) → Inv (ph at) (ph (suc at)) rs 0 s → (q : Role) → slice_get rs k ≡ Some q
      → has_added q ≡ 0 → Stops s known

  -- what is after the phase under way
  gate-or-last : (at : ℕ) → at ≤ last → ((at < last) × HasGate (ph at)) ⊎ HasEnd (ph at)
  gate-or-last at le = elim (cases_eq at last) [
    | inl e ↦ inr (subst (λ c. HasEnd (ph c)) (sym e) pr.leave)
    | inr n ↦ let l : at < last = omega (arith, le, n) in inl (l, (pr.follows at l).link.waits)
  ]

  -- the hart has added: it waits, or all have
  added : (d at top : ℕ) (roles : List Role) (r : Role) (s : State) (known : List ℕ) → at + d ≡ last → at < last → Inv (prior ph at) (ph at) roles top s
      → slice_get roles k ≡ Some r → is_word_in (gate_word at) known ≡ true
      → Further d at → Stops s known
  added d at top roles r s known e below-last v er w next = elim (cases_lt (total has_added roles) (ph at).harts) [
    | inl lt ↦ ([], tt, inl (at, (below-last, (w, low lt))))
    | inr full ↦ go d e next full
  ]
    where
      low : total has_added roles < (ph at).harts → word_at s.text s.memory (gate_word at) < length s.harts
      low lt =
          let le : at ≤ last = omega (arith, e) in
          let x : word_at s.text s.memory (gate_word at) ≡ total has_added roles = ap (λ t. word_at t s.memory (gate_word at)) v.text
          ∙ ap (word_at (ph at).text s.memory) (sym (gate-is at le)) ∙ v.gates in
          let y = v.many in omega (arith, x, y, lt)

      go : (n : ℕ) → at + n ≡ last → Further n at → (ph at).harts ≤ total has_added roles → Stops s known
      go (suc n) e next full = next s known n refl (map come roles) (passed (prior ph at) (ph at) (ph (suc at)) s roles top v full
          (pr.some at (omega (arith, e))) (pr.follows at (omega (arith, e)))) (come r) (get-come roles k r er) (none-added r)
      go zero e next full = absurd (omega (arith, e, below-last))

  -- at the last phase a hart comes to its end
  ends : (at top : ℕ) (roles : List Role) (r : Role) (s : State) (known : List ℕ) → at ≤ last → HasEnd (ph at) → Inv (prior ph at) (ph at) roles top s
      → slice_get roles k ≡ Some r → Stops s known
  ends at top roles r s known le he v er =
      let p = ph at in
      let z = prior ph at in
      let bh = behind ph last pr at le in
      let w = to-end z p (pr.code at le) (pr.tasks at le) bh k roles r er he r top s (as-set z p (pr.code at le) (pr.tasks at le) bh roles k r top s er v) in
      let i = w.1.inv in
      let o = slice_get-set_same roles k r Over er in
      (w.1.turns, w.1.only, inr (λ h eg. (i.holds k Over h o eg).0))

  reach : (d at top : ℕ) (roles : List Role) (r : Role) (s : State) (known : List ℕ) → at + d ≡ last → Inv (prior ph at) (ph at) roles top s
      → slice_get roles k ≡ Some r → (has_added r ≡ 1 → is_word_in (gate_word at) known ≡ true) → Further d at → Stops s known
  reach d at top roles r s known e v er m next =
      let le : at ≤ last = omega (arith, e) in
      elim (gate-or-last at le) [
        | inr he ↦ ends at top roles r s known le he v er
        | inl hg ↦ elim (added-either r) [
          | inr a ↦ added d at top roles r s known e hg.0 v er (m a) next
          | inl a ↦
              let p = ph at in
              let z = prior ph at in
              let bh = behind ph last pr at le in
              let w = to-gate z p (pr.code at le) (pr.tasks at le) bh k roles r er r top s hg.1 a (as-set z p (pr.code at le) (pr.tasks at le) bh roles k r top
              s er v) in
              before s known w.1.turns w.1.only (added d at w.0 (set roles k Looking) Looking (run s w.1.turns) (last_written k known s w.1.turns) e hg.0
              w.1.inv (slice_get-set_same roles k r Looking er)
              (subst (λ x. is_word_in x (last_written k known s w.1.turns) ≡ true) (gate-is at le) (w.2 known)) next)
        ]
      ]

  stops : (d at top : ℕ) (roles : List Role) (r : Role) (s : State) (known : List ℕ) → at + d ≡ last → Inv (prior ph at) (ph at) roles top s
      → slice_get roles k ≡ Some r → (has_added r ≡ 1 → is_word_in (gate_word at) known ≡ true) → Stops s known
  stops zero at top roles r s known e v er m = reach zero at top roles r s known e v er m (λ s1 kn n f rs i q eq z. absurd (omega (arith, f)))
  stops (suc d) at top roles r s known e v er m =
      reach (suc d) at top roles r s known e v er m (λ s1 kn n f rs i q eq z. stops d (suc at) 0 rs q s1 kn (omega (arith, e)) i eq
      (λ o. absurd (omega (arith, o, z))))

pub there : {X : Type 0} (xs : List X) (k : ℕ) → k < length xs → (x : X) × (slice_get xs k ≡ Some x)
there [] k l = absurd (omega (arith, l))
there (x ∷ xs) zero l = (x, refl)
there (x ∷ xs) (suc k) l = there xs k (omega (arith, l))

pub alone-stops : AloneStops
alone-stops ph last entry memory turns g o k lt =
    let begin = start (ph 0) entry memory in
    let i0 = opening ph last entry memory g o in
    let j = all ph last g begin turns i0 in
    let d = below j.at last j.within in
    let v = j.phase.inv in
    let len : length (run begin turns).harts ≡ length begin.harts = (shape-run begin turns).harts in
    let many : length begin.harts ≡ (ph 0).harts = length-opening entry (ph 0).harts (ph 0).harts in
    let f = there j.phase.roles k (let a = v.same in omega (arith, a, len, many, lt)) in
    let seen = (seen-run ph last g k turns (λ c. 0) [] begin i0 (first-seen ph last g k entry memory o)).1 f.0 f.1 in
    let r = stops ph last g k d.0 j.at j.phase.top j.phase.roles f.0 (run begin turns) (last_written k [] begin turns) d.1 v f.1 seen in
    let here = run-append begin turns r.0 in (
      r.0,
      r.1,
      elim r.2 [
        | inl w ↦ inl (record {
          k = w.0;
          within = w.1.0;
          wrote = ap (is_word_in (gate_word w.0)) (last-written-append k [] begin turns r.0) ∙ w.1.1.0;
          below =
              let y : word_at (run begin (turns ++ r.0)).text (run begin (turns ++ r.0)).memory (gate_word w.0) < length (run begin (turns ++ r.0)).harts =
              subst (λ s. word_at s.text s.memory (gate_word w.0) < length s.harts) (sym here) w.1.1.1 in
              let n : length (run begin (turns ++ r.0)).harts ≡ length begin.harts = (shape-run begin (turns ++ r.0)).harts in omega (arith, y, n);
        })
        | inr w ↦ inr (λ h e. w h (subst (λ s. slice_get s.harts k ≡ Some h) here e))
      ],
    )
