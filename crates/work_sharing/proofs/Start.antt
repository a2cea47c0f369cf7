-- The start.
use Rattle.std.proofs.Common.{◌≡◌, ℕ, zero, suc, ◌<◌, List, [], ◌∷◌, ◌++◌, length, Some, refl, ap, ◌∙◌, sym, subst, arith, inl, inr}
use Rattle.std.specs.Prelude.{◌⊎◌, slice_get}
use Rattle.hart_core.specs.HartState.{HartState, opening_hart}
use Rattle.multi_hart.specs.Run.{run, opening_harts}
use Rattle.multi_hart_laws.specs.Uses.{Setup, Shared}
use Rattle.work_sharing.specs.Phases.{Phase}
use Rattle.work_sharing.specs.Solo.{SoonDone}
use Rattle.work_sharing.specs.Programs.{Link, Program, start, Opens}
use Rattle.multi_hart.proofs.TurnByTurn.{length-opening_harts}
use Rattle.work_sharing.proofs.Phases.{all}
use Rattle.work_sharing.proofs.Roles.{Role, Before, Inside, Has, has_added, total, Holds, Inv, nowhere, InProgram}

-- at the start of a phase
abbrev pub Early : Role → Type 0
Early Before = Unit {0}
Early (Inside Setup j m) = Unit {0}
Early _ = ⊥

abbrev setting : Phase → List ℕ → Role
setting p m = Inside Setup (p.turns Setup) m

pub settings : Phase → List ℕ → List HartState → List Role
settings p m [] = []
settings p m (h ∷ hs) = setting p m ∷ settings p m hs

length-settings : (p : Phase) (m : List ℕ) (hs : List HartState) → length (settings p m hs) ≡ length hs
unfolding settings
length-settings p m [] = refl
length-settings p m (h ∷ hs) = ap suc (length-settings p m hs)

total-settings : (f : Role → ℕ) (p : Phase) (m : List ℕ) (hs : List HartState) → f (setting p m) ≡ 0 → total f (settings p m hs) ≡ 0
unfolding settings
total-settings f p m [] e = refl
total-settings f p m (h ∷ hs) e = let a = total-settings f p m hs e in omega (arith, a, e)

pub each-setting : (p : Phase) (m : List ℕ) (hs : List HartState) (k : ℕ) (r : Role) → slice_get (settings p m hs) k ≡ Some r → setting p m ≡ r
unfolding settings
each-setting p m [] k r e = absurd (cc e)
each-setting p m (h ∷ hs) zero r e = cc e
each-setting p m (h ∷ hs) (suc k) r e = each-setting p m hs k r e

no-way : (p : Phase) → Link nowhere p → ⊥
no-way p l = let e = l.code.draw.fetched in cc e

pub length-opening : (entry count n : ℕ) → length (opening_harts entry count n) ≡ n
length-opening entry count n = length-opening_harts entry count n

get-end : {X : Type 0} (xs : List X) (y x : X) (k : ℕ) → slice_get (xs ++ y ∷ []) k ≡ Some x → (slice_get xs k ≡ Some x) ⊎ ((k ≡ length xs) × (y ≡ x))
get-end [] y x zero e = inr (refl, cc e)
get-end [] y x (suc k) e = absurd (cc e)
get-end (z ∷ xs) y x zero e = inl e
get-end (z ∷ xs) y x (suc k) e = elim (get-end xs y x k e) [ inl q ↦ inl q | inr q ↦ inr (ap suc q.0, q.1) ]

pub opening-is : (entry count n k : ℕ) (h : HartState) → slice_get (opening_harts entry count n) k ≡ Some h → (k < n) × (opening_hart entry count k ≡ h)
opening-is entry count zero k h e = absurd (cc e)
opening-is entry count (suc n) k h e = elim (get-end (opening_harts entry count n) (opening_hart entry count n) h k e) [
  | inl q ↦ let r = opening-is entry count n k h q in let l = r.0 in (omega (arith, l), r.1)
  | inr q ↦ let l = q.0 ∙ length-opening entry count n in (omega (arith, l), ap (opening_hart entry count) l ∙ q.1)
]

pub opening : (ph : ℕ → Phase) (last entry : ℕ) (memory : List ℕ) → Program ph last → Opens (ph 0) entry memory → InProgram ph last (start (ph 0) entry memory)
opening ph last entry memory g o =
    let p = ph 0 in
    let s = start p entry memory in
    let rs = settings p s.memory s.harts in
    let none : total has_added rs ≡ 0 = total-settings has_added p s.memory s.harts refl in
    let i : Inv nowhere p rs 0 s = record {
      text = refl;
      size = o.size;
      bytes = o.bytes;
      many = length-opening entry p.harts p.harts;
      same = length-settings p s.memory s.harts;
      holds = λ k r h er eh. subst (Holds nowhere p 0 (total has_added rs) s.memory k h) (each-setting p s.memory s.harts k r er) (record {
        drawn = tt;
        size =
            o.size;
        agree = λ a e. refl;
        soon = let q = opening-is entry p.harts p.harts k h eh in subst (λ x. SoonDone p Setup k (suc (p.turns Setup)) x
            s.memory) q.1 (o.setup k q.0);
      });
      one_each = λ k l r q t ne er eq hr hq. subst (λ x. Has x t) (sym (each-setting p s.memory s.harts k r er)) hr;
      tickets = o.tickets;
      gates = o.gates ∙ sym none;
      came = λ l. absurd (no-way p l);
      bound = omega arith;
      fixed = λ a e. o.found a (subst Shared (sym e) tt);
      waiting = λ a t e l. o.found a (subst Shared (sym e) tt);
      tasks = λ t l m. absurd (omega (arith, m));
    } in
    record {
      at = 0;
      within = omega arith;
      phase = record { roles = rs; top = 0; inv = i };
      still_open = inr (let a = g.some 0 (omega arith) in
          omega (arith, a, none));
    }

-- no hart has added yet
pub opening-none : (ph : ℕ → Phase) (last entry : ℕ) (memory : List ℕ) (g : Program ph last) (o : Opens (ph 0) entry memory) (k : ℕ) (r : Role)
    → slice_get (opening ph last entry memory g o).phase.roles k ≡ Some r → has_added r ≡ 0
unfolding opening
opening-none ph last entry memory g o k r e = let s = start (ph 0) entry memory in sym (ap has_added (each-setting (ph 0) s.memory s.harts k r e))

-- where a run begins: each hart on its way to the first draw
pub opening-first : (ph : ℕ → Phase) (last entry : ℕ) (memory : List ℕ) (g : Program ph last) (o : Opens (ph 0) entry memory)
    → ((opening ph last entry memory g o).at ≡ 0) × ((opening ph last entry memory g o).phase.top ≡ 0)
    × ((k : ℕ) (r : Role) → slice_get (opening ph last entry memory g o).phase.roles k ≡ Some r → r ≡ Inside Setup ((ph 0).turns Setup) memory)
unfolding opening
opening-first ph last entry memory g o = (refl, refl, λ k r e. sym (each-setting (ph 0) memory (start (ph 0) entry memory).harts k r e))

-- the roles with which a run begins
pub opening-starts : (ph : ℕ → Phase) (last entry : ℕ) (memory : List ℕ) (g : Program ph last) (o : Opens (ph 0) entry memory)
    → (roles : List Role) × Inv nowhere (ph 0) roles 0 (start (ph 0) entry memory) × ((k : ℕ) (r : Role) → slice_get roles k ≡ Some r → Early r)
unfolding opening
opening-starts ph last entry memory g o =
    let i = (opening ph last entry memory g o).phase in
    let s = start (ph 0) entry memory in
    (i.roles, i.inv, λ k r e. subst Early (each-setting (ph 0) s.memory s.harts k r e) tt)

pub always : (ph : ℕ → Phase) (last entry : ℕ) (memory turns : List ℕ) → Program ph last → Opens (ph 0) entry memory
    → InProgram ph last (run (start (ph 0) entry memory) turns)
always ph last entry memory turns g o = all ph last g (start (ph 0) entry memory) turns (opening ph last entry memory g o)
