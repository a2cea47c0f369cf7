-- The turns of a phase, each a move.
use Rattle.multi_hart_laws.specs.Alone.{Quiet, Says}
use Rattle.std.proofs.Common.{◌≡◌, ℕ, zero, suc, ◌+◌, ◌-◌, List, [], ◌∷◌, length, get_or, set, Some, None, Bool, true, false, refl, ap, ◌∙◌, sym, subst, arith}
use Rattle.std.proofs.Common.{inl, inr}
use Rattle.std.specs.Prelude.{◌⊎◌, slice_get, nat_lt, cond}
use Rattle.std.proofs.lemmas.Bool.{cases_eq}
use Rattle.rv_insn.specs.declared.instructions.Insn.{Insn}
use Rattle.memory.specs.Access.{data_start, byte_at, put, put_byte, fetched, NotIn, word_at}
use Rattle.memory.proofs.Putting.{length-put, length-put_byte, byte-put, byte-put_byte}
use Rattle.memory.proofs.Words.{word-same}
use Rattle.hart_core.specs.declared.harts.Status.TheVariants.{Running}
use Rattle.hart_core.specs.HartState.{HartState}
use Rattle.hart_core.specs.Turn.{Next, Does, Effect, next_of, effect, made, applied, step, if_running, due, meant, judged, fault}
use Rattle.multi_hart.specs.Run.{State, turn, turned, put_back, reads, writes, Agree, Within}
use Rattle.multi_hart.proofs.Framing.{frame, agree-within, places-are}
use Rattle.multi_hart.proofs.TurnByTurn.{effect-bytes}
use Rattle.multi_hart_laws.specs.Uses.{Control, Owned, Job, Task, Setup, MayRead, MayWrite}
use Rattle.work_sharing.specs.Phases.{Phase, Stands, IsControl, Code}
use Rattle.work_sharing.specs.Solo.{world, Complete, Leaves}
use Rattle.work_sharing.proofs.Roles.{Role, Drawing, Inside, Has, is_past, has_added, total, Under, Holds, Inv, Turned}
use Rattle.work_sharing.proofs.Keeping.{slice_get-set_same, HasJob, inside-has, has-inside, no-control-write, Move, moved, next, total-set}

-- the same bytes put on two memories
set-both : (m n : List ℕ) (i b : ℕ) → length m ≡ length n → get_or (set m i b) i 0 ≡ get_or (set n i b) i 0
set-both [] [] i b e = refl
set-both [] (y ∷ n) i b e = absurd (omega arith)
set-both (x ∷ m) [] i b e = absurd (omega arith)
set-both (x ∷ m) (y ∷ n) zero b e = refl
set-both (x ∷ m) (y ∷ n) (suc i) b e = set-both m n i b (omega arith)

cond-both : (t : Bool) (x : ℕ) (m n : List ℕ) (i b : ℕ) → length m ≡ length n → cond t x (get_or (cond t m (set m i b)) i 0)
    ≡ cond t x (get_or (cond t n (set n i b)) i 0)
cond-both true x m n i b e = refl
cond-both false x m n i b e = set-both m n i b e

put_byte-both : (text m n : List ℕ) (q b a : ℕ) → length m ≡ length n → byte_at text m a ≡ byte_at text n a
    → byte_at text (put_byte m q b) a ≡ byte_at text (put_byte n q b) a
put_byte-both text m n q b a l e = elim (cases_eq a q) [
  | inl y ↦ subst (λ z. byte_at text (put_byte m z b) a ≡ byte_at text (put_byte n z b) a) y (cond-both (nat_lt a data_start) _ m n (a - data_start) b l)
  | inr y ↦ byte-put_byte text m q b a y ∙ e ∙ sym (byte-put_byte text n q b a y)
]

pub put-both : (text m n ps bs : List ℕ) (a : ℕ) → length m ≡ length n → byte_at text m a ≡ byte_at text n a
    → byte_at text (put m ps bs) a ≡ byte_at text (put n ps bs) a
put-both text m n [] bs a l e = e
put-both text m n (q ∷ ps) [] a l e = e
put-both text m n (q ∷ ps) (b ∷ bs) a l e = put-both text (put_byte m q b) (put_byte n q b) ps bs a (length-put_byte m q b ∙ l
    ∙ sym (length-put_byte n q b)) (put_byte-both text m n q b a l e)

-- turns
pub effect-does : (p : Phase) (mem : List ℕ) (h : HartState) (n : Next) → length mem ≡ p.size → next_of p.text p.size h ≡ n
    → effect p.text mem h ≡ made p.text mem h n
effect-does p mem h n l e = ap (λ x. made p.text mem h (next_of p.text x h)) l ∙ ap (made p.text mem h) e

pub next-by : (p : Phase) (h : HartState) (at : ℕ) (i : Insn) → h.status ≡ Running → h.pc ≡ at → Says p.text at i → fault (length p.text) p.size i h ≡ None
    → next_of p.text p.size h ≡ Does i
next-by p h at i r c w f =
    ap (λ st. if_running st (due (length p.text) p.size h (fetched p.text h.pc))) r
    ∙ ap (λ a. due (length p.text) p.size h (fetched p.text a)) c
    ∙ ap (due (length p.text) p.size h) w.fetched ∙ ap (meant (length p.text) p.size h) w.decoded ∙ ap (judged i) f

pub next-does : (p : Phase) (k : ℕ) (h : HartState) (at : ℕ) (i : Insn) → Stands p k h at → Says p.text at i → fault (length p.text) p.size i h ≡ None
    → next_of p.text p.size h ≡ Does i
next-does p k h at i s w f = next-by p h at i s.running s.pc w f

pub turn-is : (p : Phase) (s : State) (k : ℕ) (h : HartState) (e : Effect) → s.text ≡ p.text → slice_get s.harts k ≡ Some h → effect p.text s.memory h ≡ e
    → turn s k ≡ moved s k e.hart e.places e.bytes
turn-is p s k h e t eh ee = ap (turned s k) eh ∙ ap (λ x. put_back s k (applied s.memory (effect x s.memory h))) t
    ∙ ap (λ x. put_back s k (applied s.memory x)) ee

pub total-same : (f : Role → ℕ) (rs : List Role) (k : ℕ) (r q : Role) → slice_get rs k ≡ Some r → f r ≡ f q → total f (set rs k q) ≡ total f rs
total-same f rs k r q e w = let u = total-set f rs k r q e in omega (arith, u, w)

own-read : (t : Job) (k u : ℕ) → HasJob t u → MayRead t k (Owned u)
own-read Setup k u d = d
own-read (Task t) k u d = sym d

leaves-out : (p : Phase) (t : Job) (u : ℕ) (mem : List ℕ) → HasJob t u → Leaves p t mem → (i : ℕ) → p.uses i ≡ Owned u → byte_at p.text mem i ≡ p.result i
leaves-out p Setup u mem d o i y = absurd d
leaves-out p (Task t) u mem d o i y = o i (y ∙ ap (λ q. Owned q) (sym d))

-- the words that no task writes
control-word : (p : Phase) (t : Job) (k : ℕ) (m ps bs : List ℕ) (a : ℕ) → IsControl p a → Within (λ x. MayWrite t k (p.uses x)) ps
    → word_at p.text (put m ps bs) a ≡ word_at p.text m a
control-word p t k m ps bs a c w = word-same p.text _ m a (go a c.first) (go (a + 1) c.second) (go (a + 2) c.third) (go (a + 3) c.fourth)
  where
    no : (x : ℕ) (qs : List ℕ) → p.uses x ≡ Control → Within (λ y. MayWrite t k (p.uses y)) qs → NotIn x qs
    no x [] e w = tt
    no x (q ∷ qs) e w = ((λ d. no-control-write t k (subst (MayWrite t k) (ap p.uses (sym d) ∙ e) w.0)), no x qs e w.1)

    go : (x : ℕ) → p.uses x ≡ Control → byte_at p.text (put m ps bs) x ≡ byte_at p.text m x
    go x e = byte-put p.text m ps bs x (no x ps e w)

-- a turn inside a task
module _ (z p : Phase) (c : Code p) (roles : List Role) (top : ℕ) (s : State) (k : ℕ) (h : HartState) (v : Inv z p roles top s) (eh : slice_get s.harts k
    ≡ Some h) where
  module _ (t : Job) (j : ℕ) (m : List ℕ) (er : slice_get roles k ≡ Some (Inside t j m)) where
    here : Under p top s.memory k h t j m
    here = v.holds k (Inside t j m) h er eh

    abbrev e : Effect
    e = effect p.text m h

    abbrev m1 : List ℕ
    m1 = put m e.places e.bytes

    quiet : Quiet (world p t k) h
    quiet = here.soon.0

    same-effect : effect p.text s.memory h ≡ e
    same-effect = frame p.text s.memory m h (v.size
        ∙ sym here.size) (subst (λ l. Agree (byte_at p.text s.memory) (byte_at p.text m) (reads (next_of p.text l h) h)) (sym v.size)
        (agree-within (λ a. MayRead t k (p.uses a)) _ _ _ here.agree quiet.may_read))

    writes-in : Within (λ a. MayWrite t k (p.uses a)) e.places
    writes-in = subst (Within (λ a. MayWrite t k (p.uses a))) (sym (places-are p.text m h)) (subst (λ l. Within (λ a. MayWrite t k (p.uses a))
        (writes (next_of p.text l h) h)) (sym here.size) quiet.may_write)

    agree1 : (a : ℕ) → MayRead t k (p.uses a) → byte_at p.text (put s.memory e.places e.bytes) a ≡ byte_at p.text m1 a
    agree1 a r = put-both p.text s.memory m e.places e.bytes a (v.size ∙ sym here.size) (here.agree a r)

    same-turn : turn s k ≡ moved s k e.hart e.places e.bytes
    same-turn = turn-is p s k h e v.text eh same-effect

    -- the move to a role that keeps the job, or has left its bytes
    move : (r1 : Role) → has_added r1 ≡ 0 → is_past p.tasks r1 ≡ 0 → Holds z p top (total has_added roles) (put s.memory e.places e.bytes) k e.hart r1
        → ((u : ℕ) → Has r1 u → HasJob t u) → ((u : ℕ) → HasJob t u → Has r1 u ⊎ Complete p (put s.memory e.places e.bytes) u)
        → Move z p roles top s.memory k (Inside t j m) r1 top e.hart e.places e.bytes
    move r1 ea ep hold new old =
        let same = total-same has_added roles k (Inside t j m) r1 er (sym ea) in
        let past = total-same (is_past p.tasks) roles k (Inside t j m) r1 er (sym ep) in record {
          more = omega arith;
          adds = omega arith;
          touch = writes-in;
          bytes = effect-bytes p.text m h;
          holds = subst (λ n. Holds z p top n (put s.memory e.places e.bytes) k e.hart r1) (sym same) hold;
          tickets = control-word p t k s.memory e.places e.bytes p.ticket c.tickets writes-in ∙ v.tickets;
          gates = control-word p t k s.memory e.places e.bytes p.gate c.gates writes-in ∙ v.gates ∙ sym same;
          bound = let q = v.bound in omega (arith, q, past);
          new = λ u a. inl (inside-has t j m u (new u a));
          drawn = λ u a d. absurd (omega arith);
          old = λ u a d. old u (has-inside t j m u d);
        }

    to : (r1 : Role) → Move z p roles top s.memory k (Inside t j m) r1 top e.hart e.places e.bytes → Inv z p (set roles k r1) top (turn s k)
    to r1 mv = subst (Inv z p (set roles k r1) top) (sym same-turn) (next z p c.two_words roles top s k (Inside t j m) h v er eh r1 top e.hart e.places e.bytes
        mv)

  ending : (t : Job) (m : List ℕ) (er : slice_get roles k ≡ Some (Inside t zero m)) → Turned z p roles top k (Inside t zero m) (turn s k)
  ending t m er =
      let o = here t zero m er in
      let e1 = effect p.text m h in
      record {
        role = Drawing;
        top = top;
        becomes = (refl, refl);
        inv = to t zero m er Drawing (move t zero m er Drawing refl refl o.soon.1.0 (λ u a. absurd a) (λ u d. inr (λ i y.
            let r : MayRead t k (p.uses i) = subst (MayRead t k) (sym y) (own-read t k u d) in
            agree1 t zero m er i r ∙ leaves-out p t u (put m e1.places e1.bytes) d o.soon.1.1 i y)));
      }

  pub went-on : (t : Job) (j : ℕ) (m : List ℕ) (er : slice_get roles k ≡ Some (Inside t (suc j) m))
      → Inv z p (set roles k (Inside t j (step p.text m h).memory)) top (turn s k)
  went-on t j m er =
      let o = here t (suc j) m er in
      let e1 = effect p.text m h in
      let n1 = put m e1.places e1.bytes in
      to t (suc j) m er (Inside t j n1) (move t (suc j) m er (Inside t j n1) refl refl
      (record { drawn = o.drawn; size = length-put m e1.places e1.bytes ∙ o.size; agree = agree1 t (suc j) m er; soon = o.soon.1 })
      (λ u a. has-inside t j n1 u a) (λ u d. inl (inside-has t j n1 u d)))

  pub hart-there : (t : Job) (j : ℕ) (m : List ℕ) (er : slice_get roles k ≡ Some (Inside t j m)) → slice_get (turn s k).harts k ≡ Some (step p.text m h).hart
  hart-there t j m er = ap (λ x. slice_get x.harts k) (same-turn t j m er) ∙ slice_get-set_same s.harts k h (step p.text m h).hart eh

  going : (t : Job) (j : ℕ) (m : List ℕ) (er : slice_get roles k ≡ Some (Inside t (suc j) m)) → Turned z p roles top k (Inside t (suc j) m) (turn s k)
  going t j m er = record { role = Inside t j (step p.text m h).memory; top = top; becomes = (refl, ((step p.text m h).memory, refl)); inv = went-on t j m er }

  pub inside-turn : (t : Job) (j : ℕ) (m : List ℕ) (er : slice_get roles k ≡ Some (Inside t j m)) → Turned z p roles top k (Inside t j m) (turn s k)
  inside-turn t zero m er = ending t m er
  inside-turn t (suc j) m er = going t j m er
