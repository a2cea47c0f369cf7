-- Who wrote a byte last, along parts of a run in which one hart alone has turns.
use Rattle.multi_hart_laws.specs.Alone.{Covers}
use Rattle.multi_hart.specs.Run.{is_in, writes, State, turn, run}
use Rattle.std.proofs.Common.{◌≡◌, ℕ, zero, suc, ◌+◌, ◌<◌, ◌≤◌, List, [], ◌∷◌, ◌++◌, length, set, Option, Some, Bool, true, false, refl, ap, ◌∙◌, sym, subst}
use Rattle.std.proofs.Common.{arith, inl, inr}
use Rattle.std.specs.Prelude.{◌⊎◌, slice_get, cond}
use Rattle.std.proofs.lemmas.Bool.{cases_Bool}
use Rattle.memory.specs.Access.{word_at}
use Rattle.hart_core.specs.HartState.{HartState, advanced}
use Rattle.hart_core.specs.Turn.{next_of, step}
use Rattle.multi_hart_laws.specs.Uses.{Control, Owned, Task, Setup}
use Rattle.work_sharing.specs.Phases.{Phase, Code, HasGate, HasEnd}
use Rattle.work_sharing.specs.Solo.{TaskDone, TaskWrites}
use Rattle.work_sharing.proofs.Roles.{Role, Before, Asked, Drawing, Drew, Inside, Adding, Looking, Looked, Leaving, Over, Has, has_added, Inv}
use Rattle.work_sharing.specs.Turns.{last_writer, written_next, written_by_one, OnlyBy}
use Rattle.work_sharing.proofs.Keeping.{found, Touch, InWord, owner}
use Rattle.work_sharing.proofs.Races.{writes-by, in-within}
use Rattle.work_sharing.proofs.Turning.{went-on, hart-there}
use Rattle.work_sharing.proofs.Control.{entered, gate-or-end}
use Rattle.work_sharing.proofs.Start.{Early}
use Rattle.work_sharing.proofs.Reach.{set-set, with-at, one, out, again, drawn, not-all}

abbrev pub marked : ℕ → Option ℕ → State → ℕ → Option ℕ
marked a o s k = cond (is_in a (written_next s k)) (Some k) o

pub last-append : (a : ℕ) (o : Option ℕ) (s : State) (xs ys : List ℕ) → last_writer a o s (xs ++ ys) ≡ last_writer a (last_writer a o s xs) (run s xs) ys
last-append a o s [] ys = refl
last-append a o s (k ∷ xs) ys = last-append a (marked a o s k) (turn s k) xs ys

-- a byte that the role does not write keeps its writer
unmarked : (z p : Phase) (c : Code p) (roles : List Role) (top : ℕ) (s : State) (k : ℕ) (r : Role) (a : ℕ) (o : Option ℕ) → Inv z p roles top s
    → slice_get roles k ≡ Some r → (Touch p k r a → ⊥) → marked a o s k ≡ o
unmarked z p c roles top s k r a o v er n =
    let h = found s.harts roles k r (sym v.same) er in
    let y = writes-by z p c s roles top k h.0 r v er h.1 in
    let e : marked a o s k ≡ cond (is_in a (writes (next_of s.text (length s.memory) h.0) h.0)) (Some k) o =
    ap (λ q. cond (is_in a (written_by_one s q)) (Some k) o) h.1 in
    elim (cases_Bool (is_in a (writes (next_of s.text (length s.memory) h.0) h.0))) [
      | inl t ↦ absurd (n (in-within (Touch p k r) a (writes (next_of s.text (length s.memory) h.0) h.0) t y))
      | inr f ↦ e ∙ ap (λ b. cond b (Some k) o) f
    ]

-- marked by the hart, or as before
either : (a : ℕ) (s : State) (k : ℕ) → marked a (Some k) s k ≡ Some k
either a s k = go (is_in a (written_next s k))
  where
    go : (b : Bool) → cond b (Some k) (Some k) ≡ Some k
    go true = refl
    go false = refl

not-owned : (p : Phase) (k u : ℕ) (r : Role) (a : ℕ) → p.uses a ≡ Owned u → (Has r u → ⊥) → Touch p k r a → ⊥
not-owned p k u r a e n w = n (owner p k r a u e w)

-- a role that writes no task's byte
abbrev pub IsCalm : Role → Type 0
IsCalm (Inside (Task t) j m) = ⊥
IsCalm _ = Unit {0}

in-word : (p : Phase) (w a u : ℕ) → p.uses a ≡ Owned u → InWord p w a → ⊥
in-word p w a u e x = let q : Control ≡ Owned u = sym x.0 ∙ e in cc q

calm-role : (p : Phase) (k : ℕ) (r : Role) (a u : ℕ) → IsCalm r → p.uses a ≡ Owned u → Touch p k r a → ⊥
calm-role p k (Inside (Task t) j m) a u q e w = q
calm-role p k (Inside Setup j m) a u q e w = w
calm-role p k Before a u q e w = w
calm-role p k (Asked g) a u q e w = w
calm-role p k Drawing a u q e w = in-word p p.ticket a u e w
calm-role p k (Drew v) a u q e w = w
calm-role p k Adding a u q e w = in-word p p.gate a u e w
calm-role p k Looking a u q e w = w
calm-role p k (Looked g) a u q e w = w
calm-role p k Leaving a u q e w = w
calm-role p k Over a u q e w = w

-- turns that write no byte of a task
abbrev pub Skips : Phase → State → List ℕ → Type 0
Skips p s turns = (u a : ℕ) (o : Option ℕ) → p.uses a ≡ Owned u → last_writer a o s turns ≡ o

pub skips-append : (p : Phase) (s : State) (xs ys : List ℕ) → Skips p s xs → Skips p (run s xs) ys → Skips p s (xs ++ ys)
skips-append p s xs ys f g u a o e = last-append a o s xs ys ∙ g u a (last_writer a o s xs) e ∙ f u a o e

-- turns of the hart k alone that write no byte of a task, after which it has the role r1
pub record Calm (z p : Phase) (roles : List Role) (k : ℕ) (r1 : Role) (top1 : ℕ) (s : State) : Type 0 where
  pub turns : List ℕ
  pub only : OnlyBy k turns
  pub inv : Inv z p (set roles k r1) top1 (run s turns)
  pub skips : Skips p s turns

-- turns of the hart k alone that write of the tasks' bytes those of task t alone, and all of which some say
pub record Part (z p : Phase) (roles : List Role) (k t : ℕ) (top : ℕ) (s : State) (C : ℕ → Option ℕ → Type 0) : Type 0 where
  pub turns : List ℕ
  pub only : OnlyBy k turns
  pub inv : Inv z p (set roles k Drawing) top (run s turns)
  pub other : (u a : ℕ) (o : Option ℕ) → p.uses a ≡ Owned u → (t ≡ u → ⊥) → last_writer a o s turns ≡ o
  pub mine : (a : ℕ) (o : Option ℕ) → p.uses a ≡ Owned t → C a o → last_writer a o s turns ≡ Some k

module _ (z p : Phase) (c : Code p) (td : TaskDone p) (behind-it : HasGate p ⊎ HasEnd p) (k : ℕ) (roles : List Role) (r0 : Role) (e0 : slice_get roles k
    ≡ Some r0) where
  abbrev w : Role → List Role
  w r = set roles k r

  abbrev at : (r : Role) → slice_get (w r) k ≡ Some r
  at r = with-at z p c td behind-it k roles r0 e0 r

  -- ---- outside tasks

  skip-one : (r : Role) (top : ℕ) (s : State) → IsCalm r → Inv z p (w r) top s → Skips p s (k ∷ [])
  skip-one r top s q v u a o e = unmarked z p c (w r) top s k r a o v (at r) (calm-role p k r a u q e)

  then-calm : (r : Role) (top : ℕ) (s : State) → IsCalm r → Inv z p (w r) top s → (r1 : Role) (top1 : ℕ) → Calm z p roles k r1 top1 (turn s k)
      → Calm z p roles k r1 top1 s
  then-calm r top s q v r1 top1 g = record {
    turns = k ∷ g.turns;
    only = (refl, g.only);
    inv = g.inv;
    skips = λ u a o e. g.skips u a (marked a o s k) e ∙ skip-one r top s q v u a o e;
  }

  stay : (r : Role) (top : ℕ) (s : State) → Inv z p (w r) top s → Calm z p roles k r top s
  stay r top s v = record { turns = []; only = tt; inv = v; skips = λ u a o e. refl }

  from-setup : (j : ℕ) (m : List ℕ) (top : ℕ) (s : State) → Inv z p (w (Inside Setup j m)) top s → Calm z p roles k Drawing top s
  from-setup zero m top s v =
      let r = Inside Setup zero m in
      let y = one z p c td behind-it k roles r0 e0 r top s v (out z p c td behind-it k roles r0 e0 r top s v refl) in
      then-calm r top s tt v Drawing top (stay Drawing top (turn s k) (again z p c td behind-it k roles r0 e0 r top s y Drawing top y.becomes.1 y.becomes.0))
  from-setup (suc j) m top s v =
      let r = Inside Setup (suc j) m in
      let y = one z p c td behind-it k roles r0 e0 r top s v (out z p c td behind-it k roles r0 e0 r top s v refl) in
      then-calm r top s tt v Drawing top (from-setup j y.becomes.1.0 top (turn s k) (again z p c td behind-it k roles r0 e0 r top s y
      (Inside Setup j y.becomes.1.0) top y.becomes.1.1 y.becomes.0))

  from-asked : (top : ℕ) (s : State) → Inv z p (w (Asked p.harts)) top s → Calm z p roles k Drawing top s
  from-asked top s v =
      let r = Asked p.harts in
      let y = one z p c td behind-it k roles r0 e0 r top s v (out z p c td behind-it k roles r0 e0 r top s v refl) in
      elim y.becomes.1 [
        | inl a ↦ then-calm r top s tt v Drawing top (from-setup (p.turns Setup) a.1.0 top (turn s k) (again z p c td behind-it k roles r0 e0 r top s y
            (Inside Setup (p.turns Setup) a.1.0) top a.1.1 y.becomes.0))
        | inr a ↦ absurd (a.0 refl)
      ]

  from-before : (top : ℕ) (s : State) → Inv z p (w Before) top s → Calm z p roles k Drawing top s
  from-before top s v =
      let y = one z p c td behind-it k roles r0 e0 Before top s v (out z p c td behind-it k roles r0 e0 Before top s v refl) in
      then-calm Before top s tt v Drawing top (from-asked top (turn s k) (again z p c td behind-it k roles r0 e0 Before top s y (Asked p.harts) top y.becomes.1
      y.becomes.0))

  pub to-draw : (r : Role) (top : ℕ) (s : State) → Early r → Inv z p (w r) top s → Calm z p roles k Drawing top s
  to-draw Before top s q v = from-before top s v
  to-draw (Inside Setup j m) top s q v = from-setup j m top s v
  to-draw (Inside (Task t) j m) top s q v = absurd q
  to-draw (Asked g) top s q v = absurd q
  to-draw Drawing top s q v = absurd q
  to-draw (Drew g) top s q v = absurd q
  to-draw Adding top s q v = absurd q
  to-draw Looking top s q v = absurd q
  to-draw (Looked g) top s q v = absurd q
  to-draw Leaving top s q v = absurd q
  to-draw Over top s q v = absurd q

  open-while : (r : Role) (top : ℕ) (s : State) → has_added r ≡ 0 → Inv z p (w r) top s → word_at p.text s.memory p.gate < p.harts
  open-while r top s e v = let a = not-all (w r) k r (at r) e in let b = v.same in let d = v.many in let g = v.gates in omega (arith, a, b, d, g)

  -- the way to the gate, once all tasks are drawn: the last of three turns adds
  pub record Exit (top : ℕ) (s : State) : Type 0 where
    pub inv : Inv z p (w Looking) (top + 1) (run s (k ∷ k ∷ k ∷ []))
    pub still_open : word_at p.text (run s (k ∷ k ∷ [])).memory p.gate < p.harts
    pub skips : Skips p s (k ∷ k ∷ k ∷ [])

  pub to-exit : HasGate p → (top : ℕ) (s : State) → p.tasks ≤ top → Inv z p (w Drawing) top s → Exit top s
  to-exit hg top s l v =
      let s1 = turn s k in
      let v1 = drawn z p c td behind-it k roles r0 e0 top s v in
      let y1 = one z p c td behind-it k roles r0 e0 (Drew top) (top + 1) s1 v1 (out z p c td behind-it k roles r0 e0 (Drew top) (top + 1) s1 v1 refl) in
      elim y1.becomes.1 [
        | inl a ↦ let q = a.0 in absurd (omega (arith, q, l))
        | inr b ↦ elim b.1 [
          | inr a ↦ absurd (gate-or-end p hg a.0)
          | inl a ↦
              let s2 = turn s1 k in
              let v2 = again z p c td behind-it k roles r0 e0 (Drew top) (top + 1) s1 y1 Adding (top + 1) a.1 y1.becomes.0 in
              let y2 = one z p c td behind-it k roles r0 e0 Adding (top + 1) s2 v2 (out z p c td behind-it k roles r0 e0 Adding (top + 1) s2 v2 refl) in
              record {
                inv = again z p c td behind-it k roles r0 e0 Adding (top + 1) s2 y2 Looking (top + 1) y2.becomes.1 y2.becomes.0;
                still_open = open-while Adding (top + 1) s2 refl v2;
                skips = λ u b o e. skip-one Adding (top + 1) s2 tt v2 u b (marked b (marked b o s k) s1 k) e
                    ∙ skip-one (Drew top) (top + 1) s1 tt v1 u b (marked b o s k) e ∙ skip-one Drawing top s tt v u b o e;
              }
        ]
      ]

  -- the way to the end of the last phase, once all tasks are drawn
  pub to-over : HasEnd p → (top : ℕ) (s : State) → p.tasks ≤ top → Inv z p (w Drawing) top s → Calm z p roles k Over (top + 1) s
  to-over he top s l v =
      let s1 = turn s k in
      let v1 = drawn z p c td behind-it k roles r0 e0 top s v in
      let y1 = one z p c td behind-it k roles r0 e0 (Drew top) (top + 1) s1 v1 (out z p c td behind-it k roles r0 e0 (Drew top) (top + 1) s1 v1 refl) in
      elim y1.becomes.1 [
        | inl a ↦ let q = a.0 in absurd (omega (arith, q, l))
        | inr b ↦ elim b.1 [
          | inl a ↦ absurd (gate-or-end p a.0 he)
          | inr a ↦
              let s2 = turn s1 k in
              let v2 = again z p c td behind-it k roles r0 e0 (Drew top) (top + 1) s1 y1 Leaving (top + 1) a.1 y1.becomes.0 in
              let y2 = one z p c td behind-it k roles r0 e0 Leaving (top + 1) s2 v2 (inr he) in
              then-calm Drawing top s tt v Over (top + 1) (then-calm (Drew top) (top + 1) s1 tt v1 Over (top + 1) (then-calm Leaving (top + 1) s2 tt v2 Over
              (top + 1)
              (stay Over (top + 1) (turn s2 k) (again z p c td behind-it k roles r0 e0 Leaving (top + 1) s2 y2 Over (top + 1) y2.becomes.1 y2.becomes.0))))
        ]
      ]

  -- ---- a task
  module _ (tw : TaskWrites p) where
    abbrev Will : ℕ → HartState → List ℕ → ℕ → Option ℕ → Type 0
    Will n h m a o = (o ≡ Some k) ⊎ Covers p.text p.size n h m a

    -- after a turn inside task t
    first-mark : (t j : ℕ) (m : List ℕ) (top : ℕ) (s : State) (h : HartState) (n : ℕ) → slice_get s.harts k ≡ Some h → Inv z p (w (Inside (Task t) j m)) top s
        → (a : ℕ) (o : Option ℕ) → Will (suc n) h m a o → Will n (step p.text m h).hart (step p.text m h).memory a (marked a o s k)
    first-mark t j m top s h n eh v a o (inl e) = inl (ap (λ q. marked a q s k) e ∙ either a s k)
    first-mark t j m top s h n eh v a o (inr (inl e)) =
        inl (ap (λ q. cond (is_in a (written_by_one s q)) (Some k) o) eh ∙ ap (λ l. cond (is_in a (writes (next_of s.text l h) h)) (Some k) o) v.size
        ∙ ap (λ x. cond (is_in a (writes (next_of x p.size h) h)) (Some k) o) v.text ∙ ap (λ b. cond b (Some k) o) e)
    first-mark t j m top s h n eh v a o (inr (inr e)) = inr e

    no-more : (h : HartState) (m : List ℕ) (a : ℕ) (o : Option ℕ) → Will zero h m a o → o ≡ Some k
    no-more h m a o (inl e) = e
    no-more h m a o (inr e) = absurd e

    inside : (t j : ℕ) (m : List ℕ) (top : ℕ) (s : State) (h : HartState) → slice_get s.harts k ≡ Some h → Inv z p (w (Inside (Task t) j m)) top s
        → Part z p roles k t top s (Will (suc j) h m)
    inside t zero m top s h eh v =
        let r = Inside (Task t) zero m in
        let y = one z p c td behind-it k roles r0 e0 r top s v (out z p c td behind-it k roles r0 e0 r top s v refl) in
        record {
          turns = k ∷ [];
          only = (refl, tt);
          inv = again z p c td behind-it k roles r0 e0 r top s y Drawing top y.becomes.1 y.becomes.0;
          other = λ u a o e n. unmarked z p c (w r) top s k r a o v (at r) (not-owned p k u r a e n);
          mine = λ a o e q. no-more (step p.text m h).hart (step p.text m h).memory a (marked a o s k) (first-mark t zero m top s h zero eh v a o q);
        }
    inside t (suc j) m top s h eh v =
        let r = Inside (Task t) (suc j) m in
        let h1 = (step p.text m h).hart in
        let m1 = (step p.text m h).memory in
        let v1 = subst (λ l. Inv z p l top (turn s k)) (set-set roles k r (Inside (Task t) j m1)) (went-on z p c (w r) top s k h v eh (Task t) j m (at r)) in
        let g = inside t j m1 top (turn s k) h1 (hart-there z p c (w r) top s k h v eh (Task t) (suc j) m (at r)) v1 in
        record {
          turns = k ∷ g.turns;
          only = (refl, g.only);
          inv = g.inv;
          other = λ u a o e n. g.other u a (marked a o s k) e n ∙ unmarked z p c (w r) top s k r a o v (at r) (not-owned p k u r a e n);
          mine = λ a o e q. g.mine a (marked a o s k) e (first-mark t (suc j) m top s h (suc j) eh v a o q);
        }

    pub task : (t : ℕ) (s : State) → t < p.tasks → Inv z p (w Drawing) t s → Part z p roles k t (t + 1) s (λ a o. p.writes t a ≡ true)
    task t s lt v =
        let s1 = turn s k in
        let v1 = drawn z p c td behind-it k roles r0 e0 t s v in
        let h = found s1.harts (w (Drew t)) k (Drew t) (sym v1.same) (at (Drew t)) in
        let n = entered z p c (w (Drew t)) (t + 1) s1 k h.0 v1 h.1 t (at (Drew t)) td behind-it tw lt in
        let h2 = advanced h.0 in
        let v2 = subst (λ l. Inv z p l (t + 1) (turn s1 k)) (set-set roles k (Drew t) (Inside (Task t) (p.turns (Task t)) s1.memory)) n.0 in
        let g = inside t (p.turns (Task t)) s1.memory (t + 1) (turn s1 k) h2 n.1 v2 in
        record {
          turns = k ∷ k ∷ g.turns;
          only = (refl, (refl, g.only));
          inv = g.inv;
          other = λ u a o e ne. g.other u a (marked a (marked a o s k) s1 k) e ne ∙ skip-one (Drew t) (t + 1) s1 tt v1 u a (marked a o s k) e
              ∙ skip-one Drawing t s tt v u a o e;
          mine = λ a o e x. g.mine a (marked a (marked a o s k) s1 k) e (inr (n.2 a e x));
        }
