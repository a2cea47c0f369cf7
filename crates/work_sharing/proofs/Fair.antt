-- Every fair list ends.
use Rattle.std.proofs.Common.{◌≡◌, ℕ, zero, suc, ◌+◌, ◌<◌, ◌≤◌, List, [], ◌∷◌, ◌++◌, length, replicate, Option, Some, None, Bool, true, false, refl, ap, ◌∙◌}
use Rattle.std.proofs.Common.{sym, subst, arith, inl, inr}
use Rattle.std.specs.Prelude.{◌≢◌, ◌⊎◌, ◌==◌, ◌&&◌, slice_get, cond}
use Rattle.std.specs.List.{concat}
use Rattle.std.proofs.lemmas.Bool.{cases_eq, and_parts}
use Rattle.std.proofs.lemmas.Bool.Decides.{nat_tests}
use Rattle.std.proofs.lemmas.List.{length-replicate}
use Rattle.std.proofs.lemmas.Option.{slice_get_within}
use Rattle.hart_core.specs.declared.harts.Status.{Status}
use Rattle.hart_core.specs.declared.harts.Status.TheVariants.{Running, Finished as Done}
use Rattle.hart_core.specs.HartState.{HartState}
use Rattle.multi_hart.specs.Run.{all_finished, State, turn, turned, run, hart_at, is_in}
use Rattle.multi_hart.proofs.Framing.{others-stay}
use Rattle.multi_hart.proofs.Resting.{there, turn-resting, run-append}
use Rattle.multi_hart.proofs.TurnByTurn.{shape-run}
use Rattle.multi_hart_laws.specs.Uses.{Setup}
use Rattle.work_sharing.specs.Phases.{Phase, HasGate, HasEnd}
use Rattle.work_sharing.specs.Programs.{Program, start, Opens}
use Rattle.work_sharing.specs.Promises.{CanFinish}
use Rattle.work_sharing.specs.Turns.{arrived, Name, is_round, are_rounds}
use Rattle.work_sharing.specs.Fairness.{enough_rounds, FairEnds, FinishedStays, GatesGrow}
use Rattle.work_sharing.proofs.Roles.{Role, Looking, Looked, Over, has_added, total, Holds, prior, InProgram}
use Rattle.work_sharing.proofs.Keeping.{found}
use Rattle.work_sharing.proofs.Control.{gate-or-end}
use Rattle.work_sharing.proofs.Phases.{behind, one, all}
use Rattle.work_sharing.proofs.Ends.{AllOver}
use Rattle.work_sharing.proofs.Start.{opening, opening-first}
use Rattle.work_sharing.proofs.Results.{list-over}
use Rattle.work_sharing.proofs.Reach.{ones-total, within-append, same-harts}
use Rattle.work_sharing.proofs.Growth.{grows-run}
use Rattle.work_sharing.proofs.Measure.{weight, no-weight, left, left-some, left-first, left_at, after}

-- ---- what is done stays done

not-running : (st : Status) → st ≡ Done → st ≢ Running
not-running st e q = let z : Done ≡ Running = sym e ∙ q in cc z

-- a turn of a hart that has finished changes nothing
over-turn : (s : State) (k : ℕ) (h : HartState) → slice_get s.harts k ≡ Some h → h.status ≡ Done → turn s k ≡ s
over-turn s k h e d =
    let l = slice_get_within s.harts k h e in
    let q : hart_at s k ≡ h = let y : Some (hart_at s k) ≡ Some h = sym (there s k l) ∙ e in cc in
    turn-resting s k l (not-running (hart_at s k).status (ap (λ x. x.status) q ∙ d))

pub finished-stays : FinishedStays
finished-stays s [] k h e d = e
finished-stays s (x ∷ ks) k h e d = elim (cases_eq x k) [
  | inl q ↦ finished-stays (turn s x) ks k h (ap (λ t. slice_get t.harts k) (subst (λ y. turn s y ≡ s) (sym q) (over-turn s k h e d)) ∙ e) d
  | inr n ↦ finished-stays (turn s x) ks k h (others-stay s x k n ∙ e) d
]

over-stays : (s : State) (ks : List ℕ) → AllOver s → run s ks ≡ s
over-stays s [] a = refl
over-stays s (k ∷ ks) a = ap (λ t. run t ks) (same (slice_get s.harts k) refl) ∙ over-stays s ks a
  where
    same : (o : Option HartState) → slice_get s.harts k ≡ o → turn s k ≡ s
    same None e = ap (turned s k) e
    same (Some h) e = over-turn s k h e (a k h e)

pub gates-grow : GatesGrow
gates-grow ph last entry memory turns more g o k l =
    let s0 = start (ph 0) entry memory in
    let s = run s0 turns in
    let i = all ph last g s0 turns (opening ph last entry memory g o) in
    subst (λ t. arrived s k ≤ arrived t k) (sym (run-append s0 turns more)) (grows-run ph last g more s i k l)

-- ---- somebody moves, or all have finished

none-or-some : (f : Role → ℕ) (rs : List Role)
    → ((k : ℕ) (r : Role) → slice_get rs k ≡ Some r → f r ≡ 0) ⊎ ((k : ℕ) × (r : Role) × (slice_get rs k ≡ Some r) × (0 < f r))
none-or-some f [] = inl (λ k r e. absurd (cc e))
none-or-some f (x ∷ rs) = elim (cases_eq (f x) 0) [
  | inr n ↦ inr (0, x, refl, omega (arith, n))
  | inl z ↦ elim (none-or-some f rs) [
    | inr y ↦ inr (suc y.0, y.1, y.2, y.3)
    | inl a ↦ inl (both a z)
  ]
]
  where
    both : ((k : ℕ) (r : Role) → slice_get rs k ≡ Some r → f r ≡ 0) → f x ≡ 0 → (k : ℕ) (r : Role) → slice_get (x ∷ rs) k ≡ Some r → f r ≡ 0
    both a z zero r e = let y : x ≡ r = cc e in subst (λ q. f q ≡ 0) y z
    both a z (suc k) r e = a k r e

added-gate : (z p : Phase) (top shut : ℕ) (mem : List ℕ) (k : ℕ) (h : HartState) (r : Role) → has_added r ≡ 1 → Holds z p top shut mem k h r → HasGate p
added-gate z p top shut mem k h Looking e o = o.1.1
added-gate z p top shut mem k h (Looked g) e o = o.1.1.1.1
added-gate z p top shut mem k h _ e o = absurd (omega (arith, e))

module _ (ph : ℕ → Phase) (last : ℕ) (g : Program ph last) where
  module _ (s : State) (i : InProgram ph last s) (none : (k : ℕ) (r : Role) → slice_get i.phase.roles k ≡ Some r → weight (ph i.at) r ≡ 0) where
    abbrev p : Phase
    p = ph i.at

    abbrev At : ℕ → HartState → Role → Type 0
    At k h r = Holds (prior ph i.at) p i.phase.top (total has_added i.phase.roles) s.memory k h r

    at-end : HasEnd p → AllOver s
    at-end he k h eh =
        let r = found i.phase.roles s.harts k h i.phase.inv.same eh in
        let o : At k h r.0 = i.phase.inv.holds k r.0 h r.1 eh in
        elim (no-weight p r.0 (none k r.0 r.1)) [
          | inl e ↦ let y : At k h Over = subst (At k h) e o in y.0
          | inr e ↦ absurd (gate-or-end p (added-gate (prior ph i.at) p i.phase.top (total has_added i.phase.roles) s.memory k h r.0 e o) he)
        ]

    at-gate : HasGate p → AllOver s
    at-gate hg =
        let each : (k : ℕ) (r : Role) → slice_get i.phase.roles k ≡ Some r → has_added r ≡ 1 = λ k r er.
        let h = found s.harts i.phase.roles k r (sym i.phase.inv.same) er in
        let o : At k h.0 r = i.phase.inv.holds k r h.0 er h.1 in
        elim (no-weight p r (none k r er)) [
          | inl e ↦ let y : At k h.0 Over = subst (At k h.0) e o in absurd (gate-or-end p hg y.1.1)
          | inr e ↦ e
        ] in
        let t = ones-total i.phase.roles each in
        absurd (elim i.still_open [
          | inl e ↦ gate-or-end p hg (subst (λ c. HasEnd (ph c)) (sym e) g.leave)
          | inr l ↦ let a = i.phase.inv.same in let b = i.phase.inv.many in omega (arith, t, l, a, b)
        ])

    idle : AllOver s
    idle = elim (behind ph last g i.at i.within) [ inl hg ↦ at-gate hg | inr he ↦ at-end he ]

  moves : (s : State) (i : InProgram ph last s) → AllOver s ⊎ ((k : ℕ) × (r : Role) × (slice_get i.phase.roles k ≡ Some r) × (0 < weight (ph i.at) r))
  moves s i = elim (none-or-some (weight (ph i.at)) i.phase.roles) [ inl none ↦ inl (idle s i none) | inr x ↦ inr x ]

  -- ---- a round lowers what is left

  never-rises : (ks : List ℕ) (s : State) (i : InProgram ph last s) → left_at ph last g (run s ks) (all ph last g s ks i) ≤ left_at ph last g s i
  unfolding all
  never-rises [] s i = omega arith
  never-rises (k ∷ ks) s i =
      let w = one ph last g s k i in
      let a = never-rises ks (turn s k) w.to in
      elim (after ph last g s k i w) [ inl l ↦ omega (arith, a, l) | inr y ↦ let e = y.0 in omega (arith, a, e) ]

  other-in : (k x : ℕ) (ks : List ℕ) → x ≢ k → is_in k (x ∷ ks) ≡ true → is_in k ks ≡ true
  other-in k x ks n e = let f : (k == x) ≡ false = grind (arith, nat_tests) in ap (λ b. cond b true (is_in k ks)) (sym f) ∙ e

  passes : (ks : List ℕ) (s : State) (i : InProgram ph last s) (k : ℕ) (r : Role)
      → slice_get i.phase.roles k ≡ Some r → 0 < weight (ph i.at) r → is_in k ks ≡ true
      → left_at ph last g (run s ks) (all ph last g s ks i) < left_at ph last g s i
  unfolding all
  passes [] s i k r e l is = absurd (cc is)
  passes (x ∷ ks) s i k r e l is =
      let w = one ph last g s x i in
      elim (after ph last g s x i w) [
        | inl d ↦ let a = never-rises ks (turn s x) w.to in omega (arith, a, d)
        | inr y ↦ elim (cases_eq x k) [
          | inl q ↦ let z = y.2.waits r (subst (λ n. slice_get i.phase.roles n ≡ Some r) (sym q) e) in absurd (omega (arith, z, l))
          | inr n ↦
              let a = passes ks (turn s x) w.to k r (y.2.others k r n e) (subst (λ c. 0 < weight (ph c) r) (sym y.1) l) (other-in k x ks n is) in
              let q = y.0 in omega (arith, a, q)
        ]
      ]

  in-round : (n : ℕ) (ks : List ℕ) (k : ℕ) → k < n → is_round n ks ≡ true → is_in k ks ≡ true
  in-round zero ks k l e = absurd (omega (arith, l))
  in-round (suc n) ks k l e =
      let a = and_parts (is_in n ks) (is_round n ks) e in
      elim (cases_eq k n) [
        | inl q ↦ subst (λ m. is_in m ks ≡ true) (sym q) a.0
        | inr d ↦ in-round n ks k (omega (arith, l, d)) a.1
      ]

  rounds-end : (rounds : List (List ℕ)) (s : State) (i : InProgram ph last s)
      → left_at ph last g s i ≤ length rounds → are_rounds (ph i.at).harts rounds ≡ true → AllOver (run s (concat rounds))
  rounds-end [] s i l e = elim (moves s i) [
    | inl a ↦ a
    | inr y ↦ let w = left-some ph last i.at i.phase.roles i.phase.top y.0 y.1 y.2 in let q = y.3 in absurd (omega (arith, w, q, l))
  ]
  rounds-end (ks ∷ rounds) s i l e = elim (moves s i) [
    | inl a ↦ subst AllOver (sym (over-stays s (ks ++ concat rounds) a)) a
    | inr y ↦
        let n = (ph i.at).harts in
        let parts = and_parts (is_round n ks) (are_rounds n rounds) e in
        let there : y.0 < n =
        let a = slice_get_within i.phase.roles y.0 y.1 y.2 in let b = i.phase.inv.same in let c = i.phase.inv.many in omega (arith, a, b, c) in
        let d = passes ks s i y.0 y.1 y.2 y.3 (in-round n ks y.0 there parts.0) in
        let j = all ph last g s ks i in
        let same : (ph j.at).harts ≡ n = sym j.phase.inv.many ∙ (shape-run s ks).harts ∙ i.phase.inv.many in
        let r = rounds-end rounds (run s ks) j (omega (arith, d, l)) (subst (λ m. are_rounds m rounds ≡ true) (sym same) parts.1) in
        subst AllOver (sym (run-append s ks (concat rounds))) r
  ]

opening-left : (ph : ℕ → Phase) (last entry : ℕ) (memory : List ℕ) (g : Program ph last) (o : Opens (ph 0) entry memory)
    → left_at ph last g (start (ph 0) entry memory) (opening ph last entry memory g o) ≤ enough_rounds ph last
opening-left ph last entry memory g o =
    let i = opening ph last entry memory g o in
    let f = opening-first ph last entry memory g o in
    let e : left ph last i.at i.phase.roles i.phase.top ≡ left ph last 0 i.phase.roles 0 =
    ap (λ c. left ph last c i.phase.roles i.phase.top) f.0 ∙ ap (left ph last 0 i.phase.roles) f.1 in
    let many : length i.phase.roles ≡ (ph 0).harts = i.phase.inv.same ∙ i.phase.inv.many ∙ ap (λ c. (ph c).harts) f.0 in
    let most =
    left-first ph last i.phase.roles many (λ k r er. let q : weight (ph 0) r ≡ (ph 0).turns Setup + 4 = ap (weight (ph 0)) (f.2 k r er) in omega (arith, q)) in
    omega (arith, e, most)

pub fair-ends : FairEnds
fair-ends ph last entry memory g o turns rounds fair long =
    let s0 = start (ph 0) entry memory in
    let i0 = opening ph last entry memory g o in
    let s = run s0 turns in
    let i = all ph last g s0 turns i0 in
    let first : left_at ph last g s0 i0 ≤ enough_rounds ph last = opening-left ph last entry memory g o in
    let below = never-rises ph last g turns s0 i0 in
    let harts : (ph 0).harts ≡ (ph i.at).harts = sym (same-harts ph last g i.at i.within) in
    let over = rounds-end ph last g rounds s i (omega (arith, first, below, long)) (subst (λ n. are_rounds n rounds ≡ true) harts fair) in
    ap all_finished (run-append s0 turns (concat rounds)) ∙ list-over (run s (concat rounds)).harts over

-- ---- so some list ends

-- each hart once
everyone : ℕ → List ℕ
everyone zero = []
everyone (suc n) = n ∷ everyone n

round-more : (n x : ℕ) (ks : List ℕ) → is_round n ks ≡ true → is_round n (x ∷ ks) ≡ true
round-more zero x ks e = refl
round-more (suc n) x ks e =
    let parts = and_parts (is_in n ks) (is_round n ks) e in
    both-true (is_in n (x ∷ ks)) (is_round n (x ∷ ks)) (in-more (n == x) (is_in n ks) parts.0) (round-more n x ks parts.1)
  where
    both-true : (a b : Bool) → a ≡ true → b ≡ true → (a && b) ≡ true
    both-true true b p q = q
    both-true false b p q = absurd (cc p)

    in-more : (a b : Bool) → b ≡ true → cond a true b ≡ true
    in-more true b e = refl
    in-more false b e = e

everyone-round : (n : ℕ) → is_round n (everyone n) ≡ true
unfolding everyone
everyone-round zero = refl
everyone-round (suc n) =
    let f : (n == n) ≡ true = grind (arith, nat_tests) in
    ap (λ b. cond b true (is_in n (everyone n)) && is_round n (n ∷ everyone n)) f ∙ round-more n n (everyone n) (everyone-round n)

everyone-named : (n m : ℕ) → n ≤ m → Name m (everyone n)
unfolding everyone
everyone-named zero m l = tt
everyone-named (suc n) m l = (omega (arith, l), everyone-named n m (omega (arith, l)))

repeated : (n count : ℕ) → (are_rounds n (replicate count (everyone n)) ≡ true) × Name n (concat (replicate count (everyone n)))
repeated n zero = (refl, tt)
repeated n (suc count) =
    let r = repeated n count in
    let rounds = replicate count (everyone n) in (
      ap (λ b. b && are_rounds n rounds) (everyone-round n) ∙ r.0,
      within-append (λ t. t < n) (everyone n) (concat rounds) (everyone-named n n (omega arith)) r.1,
    )

pub can-finish : CanFinish
can-finish ph last entry memory turns g o =
    let n = (ph 0).harts in
    let count = enough_rounds ph last in
    let r = repeated n count in
    let rounds = replicate count (everyone n) in
    (concat rounds, r.1, fair-ends ph last entry memory g o turns rounds r.0 (let e = length-replicate count (everyone n) in omega (arith, e)))
