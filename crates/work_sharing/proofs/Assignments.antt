-- Assignments of all phases' tasks, phase after phase.
use Rattle.std.proofs.Common.{◌≡◌, ℕ, zero, suc, ◌+◌, ◌<◌, ◌≤◌, List, [], ◌∷◌, ◌++◌, length, Option, Some, None, true, refl, ap, ◌∙◌, sym, subst, arith, inl}
use Rattle.std.proofs.Common.{inr}
use Rattle.std.specs.Prelude.{map, slice_get}
use Rattle.std.proofs.lemmas.Bool.{cases_eq}
use Rattle.memory.specs.Access.{word_at}
use Rattle.multi_hart.specs.Run.{State, run}
use Rattle.multi_hart_laws.specs.Uses.{Owned}
use Rattle.work_sharing.specs.Phases.{Phase, HasEnd}
use Rattle.work_sharing.specs.Solo.{TaskWrites}
use Rattle.work_sharing.specs.Programs.{Program, start}
use Rattle.work_sharing.specs.Turns.{gate_word, last_writer, Name}
use Rattle.work_sharing.proofs.Roles.{Role, Looking, has_added, total, Holds, Inv, prior}
use Rattle.std.proofs.lemmas.List.{append_assoc}
use Rattle.work_sharing.specs.Promises.{EveryAssignment}
use Rattle.multi_hart.proofs.Resting.{run-append}
use Rattle.multi_hart.proofs.TurnByTurn.{shape-run}
use Rattle.work_sharing.proofs.Keeping.{found}
use Rattle.work_sharing.proofs.Phases.{passed, come, behind, all, come-role, come-looking}
use Rattle.work_sharing.proofs.Ends.{AllOver}
use Rattle.work_sharing.proofs.Results.{list-over}
use Rattle.work_sharing.proofs.Start.{opening, length-opening, opening-starts, Early}
use Rattle.work_sharing.proofs.Reach.{ones-total, within-append, same-harts}
use Rattle.work_sharing.proofs.History.{last-append}
use Rattle.work_sharing.proofs.Assigning.{Gone, gone, over-all}
use Rattle.work_sharing.proofs.Growth.{gate_at, gate-is, grows-run}

-- turns from s, on which phase j's gate is filled by the last of `before`, and each byte of its tasks was then last written as assigned
record DoneFrom (p : Phase) (j n : ℕ) (f : ℕ → ℕ) (s : State) (turns : List ℕ) : Type 0 where
  before : List ℕ
  init : List ℕ
  final : ℕ
  after : List ℕ
  shape : before ≡ init ++ final ∷ []
  split : turns ≡ before ++ after
  still_open : gate_at (run s init) j < n
  full : gate_at (run s before) j ≡ n
  writers : (t a : ℕ) (o : Option ℕ) → t < p.tasks → p.uses a ≡ Owned t → p.writes t a ≡ true → last_writer a o s before ≡ Some (f t)

-- more turns in front
later : (p : Phase) (j n : ℕ) (f : ℕ → ℕ) (s : State) (xs turns : List ℕ) → DoneFrom p j n f (run s xs) turns → DoneFrom p j n f s (xs ++ turns)
later p j n f s xs turns d = record {
  before = xs ++ d.before;
  init = xs ++ d.init;
  final = d.final;
  after = d.after;
  shape = ap (λ l. xs ++ l) d.shape ∙ sym (append_assoc xs d.init (d.final ∷ []));
  split = ap (λ l. xs ++ l) d.split ∙ sym (append_assoc xs d.before d.after);
  still_open = subst (λ q. gate_at q j < n) (sym (run-append s xs d.init)) d.still_open;
  full = ap (λ q. gate_at q j) (run-append s xs d.before) ∙ d.full;
  writers = λ t a o l e y. last-append a o s xs d.before ∙ d.writers t a (last_writer a o s xs) l e y;
}

module _ (ph : ℕ → Phase) (last : ℕ) (g : Program ph last) (tw : (c : ℕ) → c ≤ last → TaskWrites (ph c)) (f : ℕ → ℕ → ℕ) (fl : (c t : ℕ) → c ≤ last
    → t < (ph c).tasks → f c t < (ph c).harts) where
  abbrev n : ℕ
  n = (ph 0).harts

  record Whole (c : ℕ) (s : State) : Type 0 where
    turns : List ℕ
    names : Name n turns
    over : AllOver (run s turns)
    each : (j : ℕ) → c ≤ j → j < last → DoneFrom (ph j) j n (f j) s turns
    lastly : (t a : ℕ) (o : Option ℕ) → t < (ph last).tasks → (ph last).uses a ≡ Owned t → (ph last).writes t a ≡ true
        → last_writer a o s turns ≡ Some (f last t)

  full-roles : (z p : Phase) (roles : List Role) (top : ℕ) (s : State) → Inv z p roles top s → ((k : ℕ) (r : Role) → slice_get roles k ≡ Some r → r ≡ Looking)
      → total has_added roles ≡ p.harts
  full-roles z p roles top s v e = ones-total roles (λ k r y. ap has_added (e k r y)) ∙ v.same ∙ v.many

  -- a phase that is done, in front of further turns
  this : (c : ℕ) (lc : c ≤ last) (s : State) (d : Gone (prior ph c) (ph c) (g.code c lc) (g.tasks c lc) (behind ph last g c lc) (tw c lc) (f c) (λ t. fl c t lc)
      s) (more : List ℕ) → DoneFrom (ph c) c n (f c) s ((d.init ++ d.final ∷ []) ++ more)
  this c lc s d more =
      let p = ph c in
      let word : (q : State) → q.text ≡ p.text → gate_at q c ≡ word_at p.text q.memory p.gate = λ q t. ap (λ x. word_at x q.memory (gate_word c)) t
      ∙ ap (word_at p.text q.memory) (sym (gate-is ph last g c lc)) in
      let end = run s (d.init ++ d.final ∷ []) in
      let mid = run s d.init in
      let mt : mid.text ≡ p.text = (shape-run s d.init).text ∙ sym (shape-run s (d.init ++ d.final ∷ [])).text ∙ d.inv.text in
      let h = same-harts ph last g c lc in
      record {
        before = d.init ++ d.final ∷ [];
        init = d.init;
        final = d.final;
        after = more;
        shape = refl;
        split = refl;
        still_open = let a = word mid mt in let b = d.still_open in omega (arith, a, b, h);
        full = word end d.inv.text ∙ d.inv.gates ∙ full-roles (prior ph c) p d.roles d.top end d.inv d.all_at ∙ h;
        writers = d.writers;
      }

  count : (c : ℕ) (lc : c ≤ last) → (m : ℕ) × ((ph c).harts ≡ suc m)
  count c lc = go (ph c).harts (g.some c lc)
    where
      go : (h : ℕ) → 0 < h → (m : ℕ) × (h ≡ suc m)
      go zero l = absurd (omega (arith, l))
      go (suc m) l = (m, refl)

  whole : (d c : ℕ) (s : State) (roles : List Role) → c + d ≡ last → Inv (prior ph c) (ph c) roles 0 s → ((k : ℕ) (r : Role) → slice_get roles k ≡ Some r
      → Early r) → Whole c s
  whole zero c s roles e v early =
      let lc : c ≤ last = omega (arith, e) in
      let q : last ≡ c = omega (arith, e) in
      let z = prior ph c in
      let p = ph c in
      let he = subst (λ k. HasEnd (ph k)) q g.leave in
      let y = over-all z p (g.code c lc) (g.tasks c lc) (behind ph last g c lc) (tw c lc) (f c) (λ t. fl c t lc) he s roles v early in
      record {
        turns = y.turns;
        names = subst (λ m. Name m y.turns) (same-harts ph last g c lc) y.names;
        over = λ k one eo.
            let w = found y.roles (run s y.turns).harts k one y.inv.same eo in
            let o = y.done k w.0 w.1 in
            (subst (Holds z p y.top (total has_added y.roles) (run s y.turns).memory k one) o (y.inv.holds k w.0 one w.1 eo)).0;
        each = λ j a b. absurd (omega (arith, a, b, e));
        lastly = λ t a o l u wr.
            y.writers t a o (subst (λ k. t < (ph k).tasks) q l) (ap (λ k. (ph k).uses a) (sym q) ∙ u) (ap (λ k. (ph k).writes t a) (sym q) ∙ wr)
            ∙ ap (λ k. Some (f k t)) (sym q);
      }
  whole (suc d) c s roles e v early =
      let lc : c ≤ last = omega (arith, e) in
      let z = prior ph c in
      let p = ph c in
      let h = count c lc in
      let follows = g.follows c (omega (arith, e)) in
      let x = gone z p (g.code c lc) (g.tasks c lc) (behind ph last g c lc) (tw c lc) (f c) (λ t. fl c t lc) follows.link.waits h.0 s roles h.1 v early in
      let xs = x.init ++ x.final ∷ [] in
      let s1 = run s xs in
      let full : p.harts ≤ total has_added x.roles = let a = full-roles z p x.roles x.top s1 x.inv x.all_at in omega (arith, a) in
      let v1 = passed z p (ph (suc c)) s1 x.roles x.top x.inv full (g.some c lc) follows in
      let y = whole d (suc c) s1 (map come x.roles) (omega (arith, e)) v1 (λ k r er. let w = come-role x.roles k r er in subst Early (sym come-looking
      ∙ ap come (sym (x.all_at k w.0 w.1)) ∙ w.2) tt) in
      record {
        turns = xs ++ y.turns;
        names = within-append (λ t. t < n) xs y.turns (subst (λ m. Name m xs) (same-harts ph last g c lc) x.names) y.names;
        over = subst AllOver (sym (run-append s xs y.turns)) y.over;
        each = λ j a b. elim (cases_eq c j) [
          | inl i ↦ subst (λ k. DoneFrom (ph k) k n (f k) s (xs ++ y.turns)) i (this c lc s x y.turns)
          | inr i ↦ later (ph j) j n (f j) s xs y.turns (y.each j (omega (arith, a, i)) b)
        ];
        lastly = λ t a o l u wr. last-append a o s xs y.turns ∙ y.lastly t a (last_writer a o s xs) l u wr;
      }

prefix : (init : List ℕ) (y : ℕ) (some : List ℕ) (t : ℕ) (others : List ℕ) → init ++ y ∷ [] ≡ some ++ t ∷ others → (zs : List ℕ) × (init ≡ some ++ zs)
prefix init y [] t others e = (init, refl)
prefix [] y (x ∷ some) t others e = let q : [] ≡ some ++ t ∷ others = cc e in absurd (no-cell some t others q)
  where
    no-cell : (some : List ℕ) (t : ℕ) (others : List ℕ) → [] ≡ some ++ t ∷ others → ⊥
    no-cell [] t others e = cc e
    no-cell (x ∷ some) t others e = cc e
prefix (z ∷ init) y (x ∷ some) t others e =
    let h : z ≡ x = cc e in
    let q : init ++ y ∷ [] ≡ some ++ t ∷ others = cc e in
    let r = prefix init y some t others q in
    (r.0, ap (λ k. k ∷ init) h ∙ ap (λ l. x ∷ l) r.1)

pub every-assignment : EveryAssignment
every-assignment ph last entry memory f g o tw fl =
    let begin = start (ph 0) entry memory in
    let i = opening-starts ph last entry memory g o in
    let w = whole ph last g tw f fl last 0 begin i.0 (omega arith) i.1 i.2 in
    let many : length begin.harts ≡ (ph 0).harts = length-opening entry (ph 0).harts (ph 0).harts in
    let i0 = opening ph last entry memory g o in (
      w.turns,
      w.names,
      list-over (run begin w.turns).harts w.over,
      (λ k lk.
          let lk1 : k ≤ last = omega (arith, lk) in
          let d = w.each k (omega arith) lk in record {
            before = d.before;
            after = d.after;
            split = d.split;
            full = d.full ∙ sym many;
            first = λ some turning others e.
                let q = prefix d.init d.final some turning others (sym d.shape ∙ e) in
                let a = grows-run ph last g q.0 (run begin some) (all ph last g begin some i0) k lk1 in
                let b : gate_at (run (run begin some) q.0) k ≡ gate_at (run begin d.init) k = ap (λ s. gate_at s k) (sym (run-append begin some q.0)
                ∙ ap (run begin) (sym q.1)) in
                let x = d.still_open in
                omega (arith, a, b, x, many);
            writers = λ t a l u y. d.writers t a None l u y;
          }),
      λ t a l u y. w.lastly t a None l u y,
    )
