-- Paths one after the other, and what one instruction leaves of the numbers that a hart holds.
use Rattle.std.proofs.Common.{◌≡◌, ℕ, zero, suc, ◌+◌, ◌*◌, ◌%◌, ◌^◌, ◌<◌, ◌≤◌, List, [], ◌∷◌, ◌++◌, length, get_or, set, true, false, refl, ap, ◌∙◌, sym, subst}
use Rattle.std.proofs.Common.{arith, inl, inr, length-append, length-set, get_or-set_other}
use Rattle.std.specs.Prelude.{◌≢◌, ◌==◌, if◌then◌else◌}
use Rattle.std.proofs.Math.Nat.{mod-eq_of_lt}
use Rattle.std.proofs.lemmas.List.{get_or-set_same}
use Rattle.std.proofs.lemmas.Bool.{cases_eq}
use Rattle.std.proofs.lemmas.Bool.Decides.{nat_tests}
use Rattle.rv_insn.specs.declared.instructions.Insn.{Insn}
use Rattle.hart_core.specs.HartState.{HartState, register, with_register, given, at_pc}
use Rattle.multi_hart_laws.specs.Alone.{World, Soon, Covers}
use Rattle.multi_hart_laws.specs.Paths.{Spot, Stand, end, lane, bit, update, At, Comes, Path, Block, Line, Writes}

-- ---- lists of instructions

pub end-append : (at : ℕ) (is js : List Insn) → end at (is ++ js) ≡ end (end at is) js
end-append at [] js = refl
end-append at (i ∷ is) js = end-append (at + 4) is js

pub spot : (text : List ℕ) (at : ℕ) (is : List Insn) → Stand text at is → Spot at
spot text at [] s = s
spot text at (i ∷ is) s = let o = spot text (at + 4) is s.1 in let a = o.aligned in record {
  low = let l = o.low in omega (arith, l);
  aligned =
      omega (arith, a);
}

pub stand-front : (text : List ℕ) (at : ℕ) (is js : List Insn) → Stand text at (is ++ js) → Stand text at is
stand-front text at [] js s = spot text at js s
stand-front text at (i ∷ is) js s = (s.0, stand-front text (at + 4) is js s.1)

pub stand-back : (text : List ℕ) (at : ℕ) (is js : List Insn) → Stand text at (is ++ js) → Stand text (end at is) js
stand-back text at [] js s = s
stand-back text at (i ∷ is) js s = stand-back text (at + 4) is js s.1

-- ---- turns, and then further turns

pub soon-then : (w : World) (P Q : HartState → List ℕ → Type 0) (n k : ℕ) (h : HartState) (m : List ℕ) → Soon w P n h m → ((h1 : HartState) (m1 : List ℕ)
    → P h1 m1 → Soon w Q k h1 m1) → Soon w Q (n + k) h m
soon-then w P Q zero k h m s go = let e : k ≡ 0 + k = omega arith in subst (λ i. Soon w Q i h m) e (go h m s)
soon-then w P Q (suc n) k h m s go = let e : suc (n + k) ≡ suc n + k = omega arith in subst (λ i. Soon w Q i h m) e (s.0, soon-then w P Q n k _ _ s.1 go)

pub covers-more : (text : List ℕ) (size n k : ℕ) (h : HartState) (m : List ℕ) (a : ℕ) → Covers text size n h m a → Covers text size (n + k) h m a
covers-more text size zero k h m a c = absurd c
covers-more text size (suc n) k h m a (inl c) = let e : suc (n + k) ≡ suc n + k = omega arith in subst (λ i. Covers text size i h m a) e (inl c)
covers-more text size (suc n) k h m a (inr c) = let e : suc (n + k) ≡ suc n + k = omega arith in subst (λ i. Covers text size i h m a) e
    (inr (covers-more text size n k _ _ a c))

pub covers-later : (w : World) (P : HartState → List ℕ → Type 0) (n k : ℕ) (h : HartState) (m : List ℕ) (a : ℕ) → Soon w P n h m
    → ((h1 : HartState) (m1 : List ℕ) → P h1 m1 → Covers w.text w.size k h1 m1 a) → Covers w.text w.size (n + k) h m a
covers-later w P zero k h m a s go = let e : k ≡ 0 + k = omega arith in subst (λ i. Covers w.text w.size i h m a) e (go h m s)
covers-later w P (suc n) k h m a s go = let e : suc (n + k) ≡ suc n + k = omega arith in subst (λ i. Covers w.text w.size i h m a) e
    (inr (covers-later w P n k _ _ a s.1 go))

-- ---- paths

pub stay : (w : World) (at : ℕ) (f : ℕ → ℕ) (m : List ℕ) → Path w at at 0 f m f m
stay w at f m h a = (a, refl)

pub path-then : (w : World) (a b c n k : ℕ) (f g e : ℕ → ℕ) (m m1 m2 : List ℕ) → Path w a b n f m g m1 → Path w b c k g m1 e m2 → Path w a c (n + k) f m e m2
path-then w a b c n k f g e m m1 m2 x y h s =
    soon-then w _ _ n k h m (x h s) (λ h1 l p. subst (λ q. Soon w (Comes c e m2) k h1 q) (sym p.1) (y h1 p.0))

pub block-then : (w : World) (is js : List Insn) (n k : ℕ) (f g e : ℕ → ℕ) (m m1 m2 : List ℕ) → Block w is n f m g m1 → Block w js k g m1 e m2
    → Block w (is ++ js) (n + k) f m e m2
block-then w is js n k f g e m m1 m2 x y at s =
    subst (λ p. Path w at p (n + k) f m e m2) (sym (end-append at is js))
    (path-then w at (end at is) (end (end at is) js) n k f g e m m1 m2 (x at (stand-front w.text at is js s)) (y (end at is) (stand-back w.text at is js s)))

pub line-then : (w : World) (is js : List Insn) (f g e : ℕ → ℕ) (m m1 m2 : List ℕ) → Line w is f m g m1 → Line w js g m1 e m2 → Line w (is ++ js) f m e m2
line-then w is js f g e m m1 m2 x y = subst (λ n. Block w (is ++ js) n f m e m2) (sym (length-append is js)) (block-then w is js (length is) (length js) f g e m
    m1 m2 x y)

pub writes-first : (w : World) (at n k : ℕ) (f : ℕ → ℕ) (m : List ℕ) (a : ℕ) → Writes w at n f m a → Writes w at (n + k) f m a
writes-first w at n k f m a x h s = covers-more w.text w.size n k h m a (x h s)

pub writes-later : (w : World) (at to n k : ℕ) (f g : ℕ → ℕ) (m m1 : List ℕ) (a : ℕ) → Path w at to n f m g m1 → Writes w to k g m1 a
    → Writes w at (n + k) f m a
writes-later w at to n k f g m m1 a x y h s = covers-later w _ n k h m a (x h s) (λ h1 l p. subst (λ q. Covers w.text w.size k h1 q a) (sym p.1) (y h1 p.0))

-- ---- a counted loop: an iteration takes c turns and leads from the numbers and memory of iteration i to those of the next

pub rounds-then : (w : World) (at c : ℕ) (F : ℕ → ℕ → ℕ) (M : ℕ → List ℕ) (n : ℕ) → ((i : ℕ) → i < n → Path w at at c (F i) (M i) (F (suc i)) (M (suc i)))
    → Path w at at (n * c) (F 0) (M 0) (F n) (M n)
rounds-then w at c F M zero body = let e : 0 ≡ 0 * c = omega arith in subst (λ k. Path w at at k (F 0) (M 0) (F 0) (M 0)) e (stay w at (F 0) (M 0))
rounds-then w at c F M (suc n) body =
    let e : n * c + c ≡ suc n * c = omega arith in
    subst (λ k. Path w at at k (F 0) (M 0) (F (suc n)) (M (suc n))) e
    (path-then w at at at (n * c) c (F 0) (F n) (F (suc n)) (M 0) (M n) (M (suc n)) (rounds-then w at c F M n (λ i l. body i (omega (arith, l))))
    (body n (omega arith)))

-- ---- numbers

pub update-same : (f : ℕ → ℕ) (r v : ℕ) → update f r v r ≡ v
unfolding update
update-same f r v = let e : (r == r) ≡ true = grind (arith, nat_tests) in rw e refl

pub update-other : (f : ℕ → ℕ) (r v q : ℕ) → q ≢ r → update f r v q ≡ f q
unfolding update
update-other f r v q n = let e : (q == r) ≡ false = grind (arith, nat_tests, n) in rw e refl

-- what is no register stays
pub high-kept : (f : ℕ → ℕ) (r v q : ℕ) → r < 32 → 32 ≤ q → update f r v q ≡ f q
high-kept f r v q l h = let n : q ≢ r = (λ e. omega (arith, e, l, h)) in update-other f r v q n

update-both : (f g : ℕ → ℕ) (r v q : ℕ) → f q ≡ g q → update f r v q ≡ update g r v q
unfolding update
update-both f g r v q e = ap (λ n. if q == r then v else n) e

register-given : (h : HartState) (r v q : ℕ) → 1 ≤ r → r < length h.registers → register (given h r v) q ≡ update (register h) r v q
register-given h zero v q low l = absurd (omega (arith, low))
register-given h (suc r) v zero low l = let n : 0 ≢ suc r = (λ e. omega (arith, e)) in sym (update-other (register h) (suc r) v 0 n)
register-given h (suc r) v (suc q) low l = elim (cases_eq (suc q) (suc r)) [
  | inl e ↦ ap (λ i. get_or (set h.registers (suc r) v) i 0) e ∙ get_or-set_same h.registers (suc r) v 0 l ∙ sym (update-same (register h) (suc r) v)
      ∙ ap (update (register h) (suc r) v) (sym e)
  | inr n ↦ get_or-set_other h.registers (suc r) (suc q) v 0 n ∙ sym (update-other (register h) (suc r) v (suc q) n)
]

length-given : (h : HartState) (r v : ℕ) → length (with_register h r v).registers ≡ length h.registers
length-given h zero v = refl
length-given h (suc r) v = length-set h.registers (suc r) v

pub at-given : (at r v : ℕ) (f : ℕ → ℕ) (h : HartState) → at + 4 < 2 ^ 32 → 1 ≤ r → r < 32 → At at f h → At (at + 4) (update f r v) (given h r v)
at-given at r v f h small low high a = record {
  running = a.running;
  pc = ap (λ n. (n + 4) % 2 ^ 32) a.pc ∙ mod-eq_of_lt small;
  full = length-given h r v ∙ a.full;
  same = λ q l. register-given h r v q low (let e = a.full in omega (arith, e, high)) ∙ update-both (register h) f r v q (a.same q l);
  wide = a.wide;
  whole = a.whole;
  bytes = a.bytes;
  vl = a.vl ∙ sym (high-kept f r v 32 high (omega arith));
  vtype = a.vtype ∙ sym (high-kept f r v 33 high (omega arith));
  lanes = λ k i lo hi few. a.lanes k i lo hi few ∙ sym (high-kept f r v (lane k i) high (omega arith));
  bits = λ i few. a.bits i few ∙ sym (high-kept f r v (bit i) high (omega arith));
}

register-at : (h : HartState) (p q : ℕ) → register (at_pc h p) q ≡ register h q
register-at h p zero = refl
register-at h p (suc q) = refl

pub at-to : (at to : ℕ) (f : ℕ → ℕ) (h : HartState) → At at f h → At to f (at_pc h to)
at-to at to f h a = record {
  running = a.running;
  pc = refl;
  full = a.full;
  same = λ q l. register-at h to q ∙ a.same q l;
  wide = a.wide;
  whole = a.whole;
  bytes = a.bytes;
  vl = a.vl;
  vtype = a.vtype;
  lanes = a.lanes;
  bits = a.bits;
}
