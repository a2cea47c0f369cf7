-- For every assignment of tasks to harts a list that does it.
use Rattle.std.proofs.Common.{◌≡◌, ℕ, zero, suc, ◌+◌, ◌<◌, ◌≤◌, List, [], ◌∷◌, ◌++◌, length, set, Option, Some, true, refl, ap, ◌∙◌, sym, subst, arith, inl}
use Rattle.std.proofs.Common.{inr}
use Rattle.std.specs.Prelude.{◌⊎◌, slice_get}
use Rattle.std.proofs.lemmas.Bool.{cases_eq}
use Rattle.std.proofs.lemmas.Option.{slice_get_within}
use Rattle.memory.specs.Access.{word_at}
use Rattle.hart_core.specs.HartState.{HartState}
use Rattle.multi_hart.specs.Run.{State, run}
use Rattle.multi_hart_laws.specs.Uses.{Owned}
use Rattle.work_sharing.specs.Phases.{Phase, Code, HasGate, HasEnd}
use Rattle.work_sharing.specs.Solo.{TaskDone, TaskWrites}
use Rattle.work_sharing.proofs.Roles.{Role, Drawing, Looking, Over, Inv}
use Rattle.work_sharing.specs.Turns.{last_writer, Name, OnlyBy}
use Rattle.multi_hart.proofs.Resting.{run-append}
use Rattle.work_sharing.proofs.Keeping.{at-set}
use Rattle.work_sharing.proofs.Start.{Early}
use Rattle.work_sharing.proofs.Reach.{set-get, within-append, only-names}
use Rattle.work_sharing.proofs.Single.{there}
use Rattle.work_sharing.proofs.History.{last-append, Skips, skips-append, Exit, to-draw, to-exit, to-over, task}

-- ---- one phase

abbrev all_drawing : List HartState → List Role
all_drawing [] = []
all_drawing (h ∷ hs) = Drawing ∷ all_drawing hs

all-drawing-is : (rs : List Role) (hs : List HartState) → length rs ≡ length hs → ((k : ℕ) (r : Role) → slice_get rs k ≡ Some r → r ≡ Drawing)
    → rs ≡ all_drawing hs
all-drawing-is [] [] l f = refl
all-drawing-is [] (h ∷ hs) l f = absurd (omega arith)
all-drawing-is (r ∷ rs) [] l f = absurd (omega arith)
all-drawing-is (r ∷ rs) (h ∷ hs) l f = ap (λ x. x ∷ rs) (f 0 r refl) ∙ ap (λ x. Drawing ∷ x) (all-drawing-is rs hs (omega arith) (λ k q e. f (suc k) q e))

drawing-at : (hs : List HartState) (k : ℕ) → k < length hs → slice_get (all_drawing hs) k ≡ Some Drawing
drawing-at [] k l = absurd (omega arith)
drawing-at (h ∷ hs) zero l = refl
drawing-at (h ∷ hs) (suc k) l = drawing-at hs k (omega (arith, l))

only-drawing : (hs : List HartState) (k : ℕ) (r : Role) → slice_get (all_drawing hs) k ≡ Some r → Drawing ≡ r
only-drawing [] k r e = absurd (cc e)
only-drawing (h ∷ hs) zero r e = cc e
only-drawing (h ∷ hs) (suc k) r e = only-drawing hs k r e

module _ (z p : Phase) (c : Code p) (td : TaskDone p) (behind-it : HasGate p ⊎ HasEnd p) (tw : TaskWrites p) where
  abbrev as-is : (roles : List Role) (k : ℕ) (r : Role) (top : ℕ) (s : State) → slice_get roles k ≡ Some r → Inv z p roles top s → Inv z p (set roles k r) top s
  as-is roles k r top s e i = subst (λ l. Inv z p l top s) (sym (set-get roles k r e)) i

  named : (xs ys : List ℕ) (k : ℕ) → k < p.harts → Name p.harts xs → OnlyBy k ys → Name p.harts (xs ++ ys)
  named xs ys k l a o = within-append (λ t. t < p.harts) xs ys a (only-names p.harts k ys l o)

  -- every hart from the phase's start to its draw
  record AtDraw (m : ℕ) (s : State) : Type 0 where
    turns : List ℕ
    names : Name p.harts turns
    roles : List Role
    inv : Inv z p roles 0 (run s turns)
    done : (k : ℕ) (r : Role) → k < m → slice_get roles k ≡ Some r → r ≡ Drawing
    left : (k : ℕ) (r : Role) → m ≤ k → slice_get roles k ≡ Some r → Early r
    skips : Skips p s turns

  to-draws : (s : State) (roles : List Role) → Inv z p roles 0 s → ((k : ℕ) (r : Role) → slice_get roles k ≡ Some r → Early r) → (m : ℕ) → m ≤ p.harts
      → AtDraw m s
  to-draws s roles v e zero l = record {
    turns = [];
    names = tt;
    roles = roles;
    inv = v;
    done = λ k r b y. absurd (omega (arith, b));
    left =
        λ k r b y. e k r y;
    skips = λ u a o y. refl;
  }
  to-draws s roles v e (suc m) l =
      let d = to-draws s roles v e m (omega (arith, l)) in
      let s1 = run s d.turns in
      let f = there d.roles m (let a = d.inv.same in let b = d.inv.many in omega (arith, a, b, l)) in
      let g = to-draw z p c td behind-it m d.roles f.0 f.1 f.0 0 s1 (d.left m f.0 (omega arith) f.1) (as-is d.roles m f.0 0 s1 f.1 d.inv) in
      record {
        turns = d.turns ++ g.turns;
        names = named d.turns g.turns m (omega (arith, l)) d.names g.only;
        roles = set d.roles m Drawing;
        inv = subst (Inv z p (set d.roles m Drawing) 0) (sym (run-append s d.turns g.turns)) g.inv;
        done = λ k r b y. elim (at-set d.roles m k f.0 Drawing r f.1 y) [ inl x ↦ x.1 | inr x ↦ d.done k r (let n = x.0 in omega (arith, n, b)) x.1 ];
        left = λ k r b y. elim (at-set d.roles m k f.0 Drawing r f.1 y) [
          | inl x ↦ let n = x.0 in absurd (omega (arith, n, b))
          | inr x ↦ d.left k r
              (omega (arith, b)) x.1
        ];
        skips = skips-append p s d.turns g.turns d.skips g.skips;
      }

  -- each task by the hart that is assigned
  module _ (f : ℕ → ℕ) (fl : (t : ℕ) → t < p.tasks → f t < p.harts) where
    record Upto (hs : List HartState) (t : ℕ) (s : State) : Type 0 where
      turns : List ℕ
      names : Name p.harts turns
      pub inv : Inv z p (all_drawing hs) t (run s turns)
      pub writers : (u a : ℕ) (o : Option ℕ) → u < t → p.uses a ≡ Owned u → p.writes u a ≡ true → last_writer a o s turns ≡ Some (f u)

    upto : (hs : List HartState) → length hs ≡ p.harts → (s : State) → Inv z p (all_drawing hs) 0 s → (t : ℕ) → t ≤ p.tasks → Upto hs t s
    upto hs lh s i zero l = record { turns = []; names = tt; inv = i; writers = λ u a o b e x. absurd (omega (arith, b)) }
    upto hs lh s i (suc t) l =
        let lt : t < p.tasks = omega (arith, l) in
        let v = upto hs lh s i t (omega (arith, l)) in
        let e = drawing-at hs (f t) (let a = fl t lt in omega (arith, a, lh)) in
        let sg = set-get (all_drawing hs) (f t) Drawing e in
        let s1 = run s v.turns in
        let g = task z p c td behind-it (f t) (all_drawing hs) Drawing e tw t s1 lt (subst (λ r. Inv z p r t s1) (sym sg) v.inv) in
        let n : t + 1 ≡ suc t = omega arith in
        record {
          turns = v.turns ++ g.turns;
          names = named v.turns g.turns (f t) (fl t lt) v.names g.only;
          inv = subst (Inv z p (all_drawing hs) (suc t)) (sym (run-append s v.turns g.turns)) (subst (λ m. Inv z p (all_drawing hs) m (run s1 g.turns)) n
              (subst (λ r. Inv z p r (t + 1) (run s1 g.turns)) sg g.inv));
          writers = λ u a o b y wr. last-append a o s v.turns g.turns ∙ elim (cases_eq t u) [
            | inl q ↦ g.mine a (last_writer a o s v.turns) (y ∙ ap (λ x. Owned x) (sym q)) (ap (λ x. p.writes x a) q ∙ wr) ∙ ap (λ x. Some (f x)) q
            | inr q ↦ g.other u a (last_writer a o s v.turns) y q ∙ v.writers u a o (omega (arith, b, q)) y wr
          ];
        }

    -- the harts below m are at the gate
    record AtGate (m : ℕ) (s : State) : Type 0 where
      turns : List ℕ
      names : Name p.harts turns
      pub roles : List Role
      pub top : ℕ
      pub inv : Inv z p roles top (run s turns)
      past : p.tasks ≤ top
      done : (k : ℕ) (r : Role) → k < m → slice_get roles k ≡ Some r → r ≡ Looking
      left : (k : ℕ) (r : Role) → m ≤ k → slice_get roles k ≡ Some r → r ≡ Drawing
      skips : Skips p s turns

    abbrev leaving : (m : ℕ) (s : State) (d : AtGate m s) → m < p.harts → (r : Role) × (slice_get d.roles m ≡ Some r)
    leaving m s d l = there d.roles m (let a = d.inv.same in let b = d.inv.many in omega (arith, a, b, l))

    exit : HasGate p → (m : ℕ) (s : State) (d : AtGate m s) (l : m < p.harts) → Exit z p c td behind-it m d.roles (leaving m s d l).0 (leaving m s d l).1 d.top
        (run s d.turns)
    exit hg m s d l =
        let e = leaving m s d l in
        let q = d.left m e.0 (omega arith) e.1 in
        to-exit z p c td behind-it m d.roles e.0 e.1 hg d.top (run s d.turns) d.past (subst (λ r. Inv z p (set d.roles m r) d.top (run s d.turns)) q
        (as-is d.roles m e.0 d.top (run s d.turns) e.1 d.inv))

    to-gates : HasGate p → (s : State) (roles : List Role) (top : ℕ) → p.tasks ≤ top → Inv z p roles top s → ((k : ℕ) (r : Role) → slice_get roles k ≡ Some r
        → r ≡ Drawing) → (m : ℕ) → m ≤ p.harts → AtGate m s
    to-gates hg s roles top lt v e zero l = record {
      turns = [];
      names = tt;
      roles = roles;
      top = top;
      inv = v;
      past = lt;
      done =
          λ k r b y. absurd (omega (arith, b));
      left = λ k r b y. e k r y;
      skips = λ u a o y. refl;
    }
    to-gates hg s roles top lt v e (suc m) l =
        let d = to-gates hg s roles top lt v e m (omega (arith, l)) in
        let b : m < p.harts = omega (arith, l) in
        let w = leaving m s d b in
        let g = exit hg m s d b in
        record {
          turns = d.turns ++ (m ∷ m ∷ m ∷ []);
          names = named d.turns (m ∷ m ∷ m ∷ []) m b d.names (refl, (refl, (refl, tt)));
          roles = set d.roles m Looking;
          top = d.top + 1;
          inv = subst (Inv z p (set d.roles m Looking) (d.top + 1)) (sym (run-append s d.turns (m ∷ m ∷ m ∷ []))) g.inv;
          past = let q = d.past in omega (arith, q);
          done = λ k r b y. elim (at-set d.roles m k w.0 Looking r w.1 y) [ inl x ↦ x.1 | inr x ↦ d.done k r (let n = x.0 in omega (arith, n, b)) x.1 ];
          left = λ k r b y. elim (at-set d.roles m k w.0 Looking r w.1 y) [
            | inl x ↦ let n = x.0 in absurd (omega (arith, n, b))
            | inr x ↦ d.left k r
                (omega (arith, b)) x.1
          ];
          skips = skips-append p s d.turns (m ∷ m ∷ m ∷ []) d.skips g.skips;
        }

    -- all tasks are done, and every hart is at the draw
    record AllDone (s : State) : Type 0 where
      turns : List ℕ
      names : Name p.harts turns
      hs : List HartState
      inv : Inv z p (all_drawing hs) p.tasks (run s turns)
      writers : (t a : ℕ) (o : Option ℕ) → t < p.tasks → p.uses a ≡ Owned t → p.writes t a ≡ true → last_writer a o s turns ≡ Some (f t)

    all-done : (s : State) (roles : List Role) → Inv z p roles 0 s → ((k : ℕ) (r : Role) → slice_get roles k ≡ Some r → Early r) → AllDone s
    all-done s roles v e =
        let d = to-draws s roles v e p.harts (omega arith) in
        let s1 = run s d.turns in
        let lh : length s1.harts ≡ p.harts = d.inv.many in
        let ad = all-drawing-is d.roles s1.harts d.inv.same (λ k r y. d.done k r (let a = slice_get_within d.roles k r y in let b = d.inv.same in
        omega (arith, a, b, lh)) y) in
        let u = upto s1.harts lh s1 (subst (λ l. Inv z p l 0 s1) ad d.inv) p.tasks (omega arith) in
        record {
          turns = d.turns ++ u.turns;
          names = within-append (λ t. t < p.harts) d.turns u.turns d.names u.names;
          hs = s1.harts;
          inv = subst (Inv z p (all_drawing s1.harts) p.tasks) (sym (run-append s d.turns u.turns)) u.inv;
          writers = λ t a o l y wr. last-append a o s d.turns u.turns ∙ u.writers t a (last_writer a o s d.turns) l y wr;
        }

    -- the whole phase: the last turn fills the gate
    pub record Gone (s : State) : Type 0 where
      pub init : List ℕ
      pub final : ℕ
      pub names : Name p.harts (init ++ final ∷ [])
      pub roles : List Role
      pub top : ℕ
      pub inv : Inv z p roles top (run s (init ++ final ∷ []))
      pub all_at : (k : ℕ) (r : Role) → slice_get roles k ≡ Some r → r ≡ Looking
      pub still_open : word_at p.text (run s init).memory p.gate < p.harts
      pub writers : (t a : ℕ) (o : Option ℕ) → t < p.tasks → p.uses a ≡ Owned t → p.writes t a ≡ true → last_writer a o s (init ++ final ∷ []) ≡ Some (f t)

    three : (xs : List ℕ) (m : ℕ) → xs ++ (m ∷ m ∷ m ∷ []) ≡ (xs ++ (m ∷ m ∷ [])) ++ m ∷ []
    three [] m = refl
    three (x ∷ xs) m = ap (λ l. x ∷ l) (three xs m)

    pub gone : HasGate p → (n : ℕ) (s : State) (roles : List Role) → p.harts ≡ suc n → Inv z p roles 0 s → ((k : ℕ) (r : Role) → slice_get roles k ≡ Some r
        → Early r) → Gone s
    gone hg n s roles en v e =
        let u = all-done s roles v e in
        let s2 = run s u.turns in
        let g = to-gates hg s2 (all_drawing u.hs) p.tasks (omega arith) u.inv (λ k r y. sym (only-drawing u.hs k r y)) n (omega (arith, en)) in
        let s3 = run s2 g.turns in
        let b : n < p.harts = omega (arith, en) in
        let w = leaving n s2 g b in
        let x = exit hg n s2 g b in
        let xs = u.turns ++ g.turns in
        let to3 : run s xs ≡ s3 = run-append s u.turns g.turns in
        let shape = three xs n in
        let tail = n ∷ n ∷ n ∷ [] in
        let end : run s ((xs ++ (n ∷ n ∷ [])) ++ n ∷ []) ≡ run s3 tail = ap (run s) (sym shape) ∙ run-append s xs tail ∙ ap (λ q. run q tail) to3 in
        let mid : run s (xs ++ (n ∷ n ∷ [])) ≡ run s3 (n ∷ n ∷ []) = run-append s xs (n ∷ n ∷ []) ∙ ap (λ q. run q (n ∷ n ∷ [])) to3 in
        record {
          init = xs ++ (n ∷ n ∷ []);
          final = n;
          names = subst (Name p.harts) shape (named xs tail n b (within-append (λ t. t < p.harts) u.turns g.turns u.names g.names) (refl, (refl, (refl, tt))));
          roles = set g.roles n Looking;
          top = g.top + 1;
          inv = subst (Inv z p (set g.roles n Looking) (g.top + 1)) (sym end) x.inv;
          all_at = λ k r y. elim (at-set g.roles n k w.0 Looking r w.1 y) [
            | inl q ↦ q.1
            | inr q ↦ g.done k r (let i = q.0 in let a = slice_get_within g.roles k
                r q.1 in let b1 = g.inv.same in let b2 = g.inv.many in omega (arith, i, a, b1, b2, en)) q.1
          ];
          still_open = subst (λ q. word_at p.text q.memory p.gate < p.harts) (sym mid) x.still_open;
          writers = λ t a o l y wr.
              let o2 = last_writer a o s u.turns in
              let e2 : last_writer a o s xs ≡ last_writer a o2 s2 g.turns = last-append a o s u.turns g.turns in
              let e3 : last_writer a o s (xs ++ tail) ≡ last_writer a (last_writer a o2 s2 g.turns) s3 tail = last-append a o s xs tail
              ∙ ap (λ q. last_writer a q (run s xs) tail) e2 ∙ ap (λ q. last_writer a (last_writer a o2 s2 g.turns) q tail) to3 in
              ap (last_writer a o s) (sym shape) ∙ e3 ∙ x.skips t a (last_writer a o2 s2 g.turns) y ∙ g.skips t a o2 y ∙ u.writers t a o l y wr;
        }

    -- the last phase: every hart comes to its end
    record AtEnd (m : ℕ) (s : State) : Type 0 where
      turns : List ℕ
      names : Name p.harts turns
      roles : List Role
      top : ℕ
      inv : Inv z p roles top (run s turns)
      past : p.tasks ≤ top
      done : (k : ℕ) (r : Role) → k < m → slice_get roles k ≡ Some r → r ≡ Over
      left : (k : ℕ) (r : Role) → m ≤ k → slice_get roles k ≡ Some r → r ≡ Drawing
      skips : Skips p s turns

    to-ends : HasEnd p → (s : State) (roles : List Role) (top : ℕ) → p.tasks ≤ top → Inv z p roles top s → ((k : ℕ) (r : Role) → slice_get roles k ≡ Some r
        → r ≡ Drawing) → (m : ℕ) → m ≤ p.harts → AtEnd m s
    to-ends he s roles top lt v e zero l = record {
      turns = [];
      names = tt;
      roles = roles;
      top = top;
      inv = v;
      past = lt;
      done =
          λ k r b y. absurd (omega (arith, b));
      left = λ k r b y. e k r y;
      skips = λ u a o y. refl;
    }
    to-ends he s roles top lt v e (suc m) l =
        let d = to-ends he s roles top lt v e m (omega (arith, l)) in
        let s1 = run s d.turns in
        let b : m < p.harts = omega (arith, l) in
        let w = there d.roles m (let a = d.inv.same in let i = d.inv.many in omega (arith, a, i, l)) in
        let q = d.left m w.0 (omega arith) w.1 in
        let er : slice_get d.roles m ≡ Some Drawing = w.1 ∙ ap (λ x. Some x) q in
        let g = to-over z p c td behind-it m d.roles Drawing er he d.top s1 d.past (as-is d.roles m Drawing d.top s1 er d.inv) in
        record {
          turns = d.turns ++ g.turns;
          names = named d.turns g.turns m b d.names g.only;
          roles = set d.roles m Over;
          top = d.top + 1;
          inv = subst (Inv z p (set d.roles m Over) (d.top + 1)) (sym (run-append s d.turns g.turns)) g.inv;
          past = let a = d.past in omega (arith, a);
          done = λ k r b1 y. elim (at-set d.roles m k Drawing Over r er y) [ inl x ↦ x.1 | inr x ↦ d.done k r (let n = x.0 in omega (arith, n, b1)) x.1 ];
          left = λ k r b1 y. elim (at-set d.roles m k Drawing Over r er y) [
            | inl x ↦ let n = x.0 in absurd (omega (arith, n, b1))
            | inr x ↦ d.left k r
                (omega (arith, b1)) x.1
          ];
          skips = skips-append p s d.turns g.turns d.skips g.skips;
        }

    pub record Over-all (s : State) : Type 0 where
      pub turns : List ℕ
      pub names : Name p.harts turns
      pub roles : List Role
      pub top : ℕ
      pub inv : Inv z p roles top (run s turns)
      pub done : (k : ℕ) (r : Role) → slice_get roles k ≡ Some r → r ≡ Over
      pub writers : (t a : ℕ) (o : Option ℕ) → t < p.tasks → p.uses a ≡ Owned t → p.writes t a ≡ true → last_writer a o s turns ≡ Some (f t)

    pub over-all : HasEnd p → (s : State) (roles : List Role) → Inv z p roles 0 s → ((k : ℕ) (r : Role) → slice_get roles k ≡ Some r → Early r) → Over-all s
    over-all he s roles v e =
        let u = all-done s roles v e in
        let s2 = run s u.turns in
        let g = to-ends he s2 (all_drawing u.hs) p.tasks (omega arith) u.inv (λ k r y. sym (only-drawing u.hs k r y)) p.harts (omega arith) in
        let to3 = run-append s u.turns g.turns in
        record {
          turns = u.turns ++ g.turns;
          names = within-append (λ t. t < p.harts) u.turns g.turns u.names g.names;
          roles = g.roles;
          top = g.top;
          inv = subst (Inv z p g.roles g.top) (sym to3) g.inv;
          done = λ k r y. g.done k r (let a = slice_get_within g.roles k r y in let b1 = g.inv.same in let b2 = g.inv.many in omega (arith, a, b1, b2)) y;
          writers = λ t a o l y wr. last-append a o s u.turns g.turns ∙ g.skips t a (last_writer a o s u.turns) y ∙ u.writers t a o l y wr;
        }
