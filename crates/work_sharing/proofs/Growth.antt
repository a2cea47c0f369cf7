-- Gate words never fall.
use Rattle.std.proofs.Common.{◌≡◌, ℕ, suc, ◌+◌, ◌<◌, ◌≤◌, List, [], ◌∷◌, set, Some, refl, ap, ◌∙◌, sym, subst, arith, inl, inr}
use Rattle.std.specs.Prelude.{◌≢◌, slice_get}
use Rattle.std.proofs.lemmas.Bool.{cases_eq}
use Rattle.memory.specs.Access.{byte_at, put, word_at}
use Rattle.memory.proofs.Putting.{byte-put}
use Rattle.memory.proofs.Words.{word-same}
use Rattle.hart_core.specs.HartState.{HartState}
use Rattle.hart_core.specs.Turn.{effect}
use Rattle.multi_hart.specs.Run.{State, turn, turned, run, Within}
use Rattle.multi_hart.proofs.Framing.{places-are}
use Rattle.work_sharing.specs.Phases.{Phase}
use Rattle.work_sharing.specs.Programs.{Link, Program}
use Rattle.work_sharing.specs.Turns.{gate_word}
use Rattle.work_sharing.proofs.Roles.{Role, has_added, total, Becomes, prior, InProgram}
use Rattle.multi_hart.proofs.Framing.{turn-is}
use Rattle.work_sharing.proofs.Keeping.{found, not-in, Touch, total-set}
use Rattle.work_sharing.proofs.Control.{added-most, total-most}
use Rattle.work_sharing.proofs.Phases.{Went, one}
use Rattle.work_sharing.proofs.Races.{writes-by}
use Rattle.work_sharing.proofs.Gates.{gate-untouched, added-grows}

abbrev pub gate_at : State → ℕ → ℕ
gate_at s c = word_at s.text s.memory (gate_word c)

module _ (ph : ℕ → Phase) (last : ℕ) (g : Program ph last) where
  pub gate-is : (c : ℕ) → c ≤ last → (ph c).gate ≡ gate_word c
  gate-is c le = let a = g.tickets c le in let b = (g.code c le).two_words in omega (arith, a, b)

  -- the word of the phase under way
  here : (s : State) (i : InProgram ph last s) → gate_at s i.at ≡ total has_added i.phase.roles
  here s i =
      let v = i.phase.inv in
      ap (λ t. word_at t s.memory (gate_word i.at)) v.text ∙ ap (word_at (ph i.at).text s.memory) (sym (gate-is i.at i.within)) ∙ v.gates

  stays : (s : State) (i : InProgram ph last s) (k c : ℕ) (r : Role) (h : HartState) → slice_get i.phase.roles k ≡ Some r → slice_get s.harts k ≡ Some h
      → c ≤ last → c ≢ i.at → gate_at (turn s k) c ≡ gate_at s c
  stays s i k c r h er eh lc n =
      let p = ph i.at in
      let e = effect s.text s.memory h in
      let m1 = put s.memory e.places e.bytes in
      let w : Within (Touch p k r) e.places = subst (Within (Touch p k r)) (sym (places-are s.text s.memory h)) (writes-by (prior ph i.at) p
      (g.code i.at i.within) s i.phase.roles i.phase.top k h r i.phase.inv er eh) in
      let byte : (b : ℕ) → gate_word c ≤ b → b < gate_word c + 4 → byte_at s.text m1 b ≡ byte_at s.text s.memory b = λ b l u. byte-put s.text s.memory e.places
      e.bytes b (not-in (Touch p k r) b e.places (gate-untouched ph last g i.at c k i.within lc r (λ x. n) b l u) w) in
      ap (λ x. word_at x.text x.memory (gate_word c)) (turn-is s k h e eh refl)
      ∙ word-same s.text m1 s.memory (gate_word c) (byte (gate_word c) (omega arith) (omega arith)) (byte (gate_word c + 1) (omega arith) (omega arith))
      (byte (gate_word c + 2) (omega arith) (omega arith)) (byte (gate_word c + 3) (omega arith) (omega arith))

  -- in the phase under way
  grows-here : (s : State) (i : InProgram ph last s) (k : ℕ) (w : Went ph last s k i) (r r1 : Role) (top1 : ℕ) → slice_get i.phase.roles k ≡ Some r
      → w.rs ≡ set i.phase.roles k r1 → Becomes (ph i.at) i.phase.top (total has_added i.phase.roles) r r1 top1 → gate_at s i.at ≤ gate_at (turn s k) i.at
  grows-here s i k w r r1 top1 er e b = elim w.settled [
    | inl x ↦
        let a = here s i in
        let d : gate_at (turn s k) i.at ≡ total has_added w.to.phase.roles = ap (gate_at (turn s k)) (sym x.0) ∙ here (turn s k) w.to in
        let q : total has_added w.to.phase.roles ≡ total has_added (set i.phase.roles k r1) = ap (total has_added) (x.1 ∙ e) in
        let t = total-set has_added i.phase.roles k r r1 er in
        let m = added-grows (ph i.at) i.phase.top (total has_added i.phase.roles) r r1 top1 b in
        omega (arith, a, d, q, t, m)
    | inr x ↦
        let a = here s i in
        let s1 = turn s k in
        let below : i.at < last = let y = x.0 in let u = w.to.within in omega (arith, y, u) in
        let l = (g.follows i.at below).link in
        let came : word_at (ph (suc i.at)).text s1.memory (ph i.at).gate ≡ (ph (suc i.at)).harts = subst (λ c. Link (prior ph c) (ph c)
        → word_at (ph c).text s1.memory (prior ph c).gate ≡ (ph c).harts) x.0 w.to.phase.inv.came l in
        let text : s1.text ≡ (ph (suc i.at)).text = w.to.phase.inv.text ∙ ap (λ c. (ph c).text) x.0 in
        let d : gate_at s1 i.at ≡ (ph (suc i.at)).harts = ap (λ t. word_at t s1.memory (gate_word i.at)) text
        ∙ ap (word_at (ph (suc i.at)).text s1.memory) (sym (gate-is i.at i.within)) ∙ came in
        let m = total-most has_added added-most i.phase.roles in
        let y = i.phase.inv.same in
        let z = i.phase.inv.many in
        let h = l.harts in
        omega (arith, a, d, m, y, z, h)
  ]

  grows : (s : State) (i : InProgram ph last s) (k c : ℕ) → c ≤ last → gate_at s c ≤ gate_at (turn s k) c
  grows s i k c lc =
      let w = one ph last g s k i in
      elim w.after [
        | inl x ↦ let e : turn s k ≡ s = ap (turned s k) x.0 in let q : gate_at (turn s k) c ≡ gate_at s c = ap (λ y. gate_at y c) e in omega (arith, q)
        | inr x ↦ elim (cases_eq c i.at) [
          | inl e ↦ subst (λ y. gate_at s y ≤ gate_at (turn s k) y) (sym e) (grows-here s i k w x.0 x.1 x.2 x.3 x.4 x.5)
          | inr n ↦ let h = found s.harts i.phase.roles k x.0 (sym i.phase.inv.same) x.3 in let q = stays s i k c x.0 h.0 x.3 h.1 lc n in omega (arith, q)
        ]
      ]

  pub grows-run : (ks : List ℕ) (s : State) (i : InProgram ph last s) (c : ℕ) → c ≤ last → gate_at s c ≤ gate_at (run s ks) c
  grows-run [] s i c lc = omega arith
  grows-run (k ∷ ks) s i c lc = let a = grows s i k c lc in let b = grows-run ks (turn s k) (one ph last g s k i).to c lc in omega (arith, a, b)
