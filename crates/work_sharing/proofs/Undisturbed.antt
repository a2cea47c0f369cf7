-- A job is done among other harts' turns that leave its bytes.
use Rattle.std.proofs.Common.{◌≡◌, ℕ, zero, suc, ◌+◌, List, [], ◌∷◌, length, Option, Some, None, true, false, refl, ap, ◌∙◌, sym, subst, arith, inl, inr}
use Rattle.std.specs.Prelude.{◌==◌, ◌||◌, Bool, slice_get, cond}
use Rattle.std.proofs.lemmas.Bool.{cases_eq}
use Rattle.std.proofs.lemmas.Bool.Decides.{nat_tests}
use Rattle.memory.specs.Access.{byte_at, put, NotIn}
use Rattle.memory.proofs.Putting.{length-put, byte-put}
use Rattle.hart_core.specs.HartState.{HartState}
use Rattle.hart_core.specs.Turn.{next_of, effect, step}
use Rattle.multi_hart.specs.Run.{State, turn, turned, run, Within, is_in, reads, writes}
use Rattle.multi_hart.proofs.Framing.{frame-by, places-are, turn-is}
use Rattle.multi_hart_laws.specs.Uses.{Job, Task, Setup}
use Rattle.work_sharing.specs.Phases.{Phase, Stands}
use Rattle.multi_hart_laws.specs.Alone.{touches}
use Rattle.work_sharing.specs.Solo.{Leaves, SoonDone}
use Rattle.multi_hart.proofs.Framing.{others-stay}
use Rattle.work_sharing.specs.Turns.{written_by_one}
use Rattle.work_sharing.specs.Undisturbed.{turns_of, Undisturbed, LeavesAmong, DoneAmongOthers}
use Rattle.multi_hart.proofs.TurnByTurn.{shape-turn}
use Rattle.work_sharing.proofs.Keeping.{slice_get-set_same, not-in, moved}
use Rattle.work_sharing.proofs.Turning.{put-both}

kept-out : (P : ℕ → Type 0) (a : ℕ) (ps : List ℕ) → P a → Within (λ b. P b → ⊥) ps → NotIn a ps
kept-out P a ps x w = not-in (λ b. P b → ⊥) a ps (λ f. f x) w

-- what another hart's turn leaves
other-byte : (P : ℕ → Type 0) (s : State) (t : ℕ) (o : Option HartState) → slice_get s.harts t ≡ o → Within (λ b. P b → ⊥) (written_by_one s o) → (a : ℕ) → P a
    → byte_at s.text (turned s t o).memory a ≡ byte_at s.text s.memory a
other-byte P s t None e w a x = refl
other-byte P s t (Some g) e w a x =
    let f = effect s.text s.memory g in
    byte-put s.text s.memory f.places f.bytes a (kept-out P a f.places x (subst (Within (λ b. P b → ⊥)) (sym (places-are s.text s.memory g)) w))

leaves-on : (T : ℕ → Bool) (p : Phase) (x : Job) (m n : List ℕ) → ((a : ℕ) → T a ≡ true → byte_at p.text n a ≡ byte_at p.text m a) → Leaves p x m
    → LeavesAmong T p x n
leaves-on T p Setup m n f l = tt
leaves-on T p (Task t) m n f l = λ a y e. f a y ∙ l a e

all-in : (P : ℕ → Type 0) (ps : List ℕ) → ((a : ℕ) → is_in a ps ≡ true → P a) → Within P ps
all-in P [] f = tt
all-in P (q ∷ ps) f = (f q (here q ps), all-in P ps (λ a e. f a (later a q ps e)))
  where
    here : (q : ℕ) (ps : List ℕ) → is_in q (q ∷ ps) ≡ true
    here q ps = let e : (q == q) ≡ true = grind (arith, nat_tests) in ap (λ b. cond b true (is_in q ps)) e

    later : (a q : ℕ) (ps : List ℕ) → is_in a ps ≡ true → is_in a (q ∷ ps) ≡ true
    later a q ps e = go (a == q)
      where
        go : (b : Bool) → cond b true (is_in a ps) ≡ true
        go true = refl
        go false = e

or-first : (a b c : Bool) → a ≡ true → (a || b || c) ≡ true
or-first true b c e = refl
or-first false b c e = absurd (cc e)

or-last : (a b c : Bool) → c ≡ true → (a || b || c) ≡ true
or-last true b c e = refl
or-last false true c e = refl
or-last false false c e = e

module _ (p : Phase) (x : Job) (k : ℕ) (T : ℕ → Bool) where
  abbrev Done : State → List ℕ → Type 0
  Done s turns = (h : HartState) × (slice_get (run s turns).harts k ≡ Some h) × Stands p k h p.draw_code × LeavesAmong T p x (run s turns).memory

  abbrev Same : State → List ℕ → Type 0
  Same s m = (a : ℕ) → T a ≡ true → byte_at p.text s.memory a ≡ byte_at p.text m a

  abbrev Ahead : ℕ → HartState → List ℕ → Type 0
  Ahead n h m = (a : ℕ) → touches p.text p.size n h m a ≡ true → T a ≡ true

  among : (turns : List ℕ) (n : ℕ) (s : State) (h : HartState) (m : List ℕ) → s.text ≡ p.text → length s.memory ≡ p.size → length m ≡ p.size
      → slice_get s.harts k ≡ Some h → Same s m → SoonDone p x k n h m → Ahead n h m → Undisturbed T k s turns → turns_of k turns ≡ n → Done s turns
  among [] zero s h m et ls lm eh same soon ah u c = (h, eh, soon.0, leaves-on T p x m s.memory same soon.1)
  among [] (suc n) s h m et ls lm eh same soon ah u c = absurd (omega (arith, c))
  among (t ∷ turns) n s h m et ls lm eh same soon ah u c = elim (cases_eq t k) [
    | inl e ↦ own n (λ n1 h1 m1 l1 e1 same1 soon1 ah1 c1. among turns n1 (turn s t) h1 m1 ((shape-turn s t).text ∙ et) ((shape-turn s t).bytes
        ∙ ls) l1 e1 same1 soon1 ah1 u.1 c1) e soon ah (let q : (t == k) ≡ true = grind (arith, nat_tests) in sym (ap (λ b. cond b 1 0 + turns_of k turns) q)
        ∙ c)
    | inr e ↦
        let q : (t == k) ≡ false = grind (arith, nat_tests) in
        let sh = shape-turn s t in
        let s1 = turn s t in
        among turns n s1 h m (sh.text ∙ et) (sh.bytes ∙ ls) lm (others-stay s t k e ∙ eh)
        (λ a y. ap (λ z. byte_at z s1.memory a) (sym et) ∙ other-byte (λ b. T b ≡ true) s t (slice_get s.harts t) refl (u.0 e) a y
        ∙ ap (λ z. byte_at z s.memory a) et ∙ same a y)
        soon ah u.1 (let v = sym (ap (λ b. cond b 1 0 + turns_of k turns) q) ∙ c in omega (arith, v))
  ]
    where
      own : (n : ℕ) → ((n1 : ℕ) (h1 : HartState) (m1 : List ℕ) → length m1 ≡ p.size → slice_get (turn s t).harts k ≡ Some h1 → Same (turn s t) m1
          → SoonDone p x k n1 h1 m1 → Ahead n1 h1 m1 → turns_of k turns ≡ n1 → Done s (t ∷ turns)) → t ≡ k → SoonDone p x k n h m → Ahead n h m
          → 1 + turns_of k turns ≡ n → Done s (t ∷ turns)
      own zero next e soon ah c = absurd (omega (arith, c))
      own (suc n) next e soon ah c =
          let f = effect p.text m h in
          let rs = reads (next_of p.text p.size h) h in
          let ws = writes (next_of p.text p.size h) h in
          let rest = touches p.text p.size n (step p.text m h).hart (step p.text m h).memory in
          let seen : Within (λ a. T a ≡ true) rs = all-in (λ a. T a ≡ true) rs (λ a y. ah a (or-first (is_in a rs) (is_in a ws) (rest a) y)) in
          let same-effect : effect p.text s.memory h ≡ f = frame-by (λ a. T a ≡ true) p.text s.memory m h (ls
          ∙ sym lm) same (subst (λ l. Within (λ a. T a ≡ true) (reads (next_of p.text l h) h)) (sym ls) seen) in
          let to : turn s t ≡ moved s k f.hart f.places f.bytes = ap (turn s) e ∙ turn-is s k h f eh (ap (λ z. effect z s.memory h) et ∙ same-effect) in
          next n f.hart (put m f.places f.bytes) (length-put m f.places f.bytes ∙ lm)
          (ap (λ z. slice_get z.harts k) to ∙ slice_get-set_same s.harts k h f.hart eh)
          (λ a y. ap (λ z. byte_at p.text z.memory a) to ∙ put-both p.text s.memory m f.places f.bytes a (ls ∙ sym lm) (same a y))
          soon.1 (λ a y. ah a (or-last (is_in a rs) (is_in a ws) (rest a) y)) (omega (arith, c))

pub done-among-others : DoneAmongOthers
done-among-others p x k n s h turns et ls eh soon u c = among p x k (touches p.text p.size n h s.memory) turns n s h s.memory et ls ls eh (λ a y. refl) soon
    (λ a y. y) u c
