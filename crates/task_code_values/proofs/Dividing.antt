-- Quotients and remainders that are rounded to minus infinity, by the complement of a negative number.
use Rattle.std.proofs.Common.{◌≡◌, ℕ, suc, ◌+◌, ◌-◌, ◌/◌, ◌%◌, ◌^◌, ◌<◌, ◌≤◌, List, [], ◌∷◌, ◌++◌, length, Bool, true, false}
use Rattle.std.proofs.Common.{refl, ap, ◌∙◌, sym, subst, arith, inl, inr}
use Rattle.std.specs.Prelude.{◌≢◌, ◌⊎◌, ◌==◌, if◌then◌else◌, nat_lt, pos, negsuc, min, bit_xor, bit_and}
use Rattle.std.specs.Int.{bit_at, int_shr, w32}
use Rattle.std.proofs.Math.Nat.{div-le_self, mod-lt}
use Rattle.std.proofs.lemmas.Bool.Decides.{nat_tests}
use Rattle.std.proofs.lemmas.Nat.{xor_of_32}
use Rattle.std.proofs.lemmas.Nat.Bits.{bit_at_xor, bit_at_and, bit_at-zero, bit_at_ones, bit_at_ones_above, bit_at_above, bit_at_not, bit_at-lt}
use Rattle.std.proofs.lemmas.Nat.Bits.{same_from_bits}
use Rattle.std.proofs.lemmas.Nat.Bits.{same_from_bits_below}
use Rattle.std.proofs.lemmas.Bool.{cases_lt}
use Rattle.rv_insn.specs.declared.instructions.Insn.{Insn}
use Rattle.rv_insn.specs.declared.instructions.Insn.TheVariants.{Alu, Shift}
use Rattle.rv_insn.specs.declared.operations.AluOp.TheVariants as alus
use Rattle.rv_insn.specs.declared.operations.ShiftOp.TheVariants as shifts
use Rattle.lanes.specs.Words as lanes
use Rattle.halide_pipeline.specs.Words as word
use Rattle.multi_hart_laws.specs.Alone.{World}
use Rattle.multi_hart_laws.proofs.Paths.{line-then}
use Rattle.task_code_scalar.specs.Words.{Emits}
use Rattle.task_code_scalar.proofs.Spelling.{emits_then}
use Rattle.task_code_scalar.proofs.Values.{alu-sets, shift-sets}
use Rattle.task_code_registers.specs.declared.scopes.Held.{Held}
use Rattle.task_code_registers.specs.Emitting.{Puts}
use Rattle.task_code_registers.specs.Registers.{scratch, address_register, IsSource}
use Rattle.task_code_registers.specs.Scopes.{IsKept, AreHolders}
use Rattle.task_code_registers.proofs.Knowing.{working-free}
use Rattle.task_code_registers.proofs.Making.{puts-set, short-then}
use Rattle.task_code_values.specs.Making.{IsStack, MakesFrom, MakesHeld}
use Rattle.task_code_values.proofs.Operating.{sets-then}

-- ---- words

abbrev pub sign_word : Bool → ℕ
sign_word t = if t then 0 else 2 ^ 32 - 1

sign-is : (x : ℕ) → x < 2 ^ 32 → lanes.shift_right_arithmetic 32 x 31 ≡ sign_word (nat_lt x (2 ^ 31))
sign-is x l = by-test (nat_lt x (2 ^ 31)) refl
  where
    by-test : (t : Bool) → nat_lt x (2 ^ 31) ≡ t → lanes.shift_right_arithmetic 32 x 31 ≡ sign_word t
    by-test true e =
        let p : x < 2 ^ 31 = grind (arith, nat_tests, e) in
        let q : x / 2 ^ (31 % 32) ≡ 0 = omega (arith, p) in
        ap (λ t. lanes.wrapped 32 (int_shr (if t then pos x else negsuc (2 ^ 32 - suc x)) (31 % 32))) e ∙ ap (λ n. n % 2 ^ 32) q
    by-test false e =
        let p : 2 ^ 31 ≤ x = grind (arith, nat_tests, e) in
        let q : (2 ^ 32 - suc x) / 2 ^ (31 % 32) ≡ 0 = omega (arith, p, l) in
        ap (λ t. lanes.wrapped 32 (int_shr (if t then pos x else negsuc (2 ^ 32 - suc x)) (31 % 32))) e ∙ ap (λ n. 2 ^ 32 - suc (n % 2 ^ 32)) q

one-more : (b : ℕ) → b < 2 → (b + 1) % 2 ≡ 1 - b
one-more b l = omega (arith, l)

none-more : (b : ℕ) → b < 2 → (b + 0) % 2 ≡ b
none-more b l = omega (arith, l)

xor-none : (x : ℕ) → bit_xor x 0 ≡ x
xor-none x = same_from_bits (bit_xor x 0) x (λ i. bit_at_xor x 0 i ∙ ap (λ z. (bit_at x i + z) % 2) (bit_at-zero i) ∙ none-more (bit_at x i) (bit_at-lt x i))

xor-ones : (x : ℕ) → x < 2 ^ 32 → bit_xor x (2 ^ 32 - 1) ≡ 2 ^ 32 - 1 - x
xor-ones x l =
    same_from_bits_below 32 (bit_xor x (2 ^ 32 - 1)) (2 ^ 32 - 1 - x) (xor_of_32 x (2 ^ 32 - 1) l (omega arith)) (omega arith)
    (λ i few. bit_at_xor x (2 ^ 32 - 1) i ∙ ap (λ z. (bit_at x i + z) % 2) (bit_at_ones 32 i few) ∙ one-more (bit_at x i) (bit_at-lt x i)
    ∙ sym (bit_at_not w32 x i l few))

least-zero : (b : ℕ) → min 0 b ≡ 0
least-zero b = omega arith

least-one : (b : ℕ) → b < 2 → min 1 b ≡ b
least-one b l = omega (arith, l)

and-none : (c : ℕ) → bit_and 0 c ≡ 0
and-none c = same_from_bits (bit_and 0 c) 0
    (λ i. bit_at_and 0 c i ∙ ap (λ z. min z (bit_at c i)) (bit_at-zero i) ∙ least-zero (bit_at c i) ∙ sym (bit_at-zero i))

and-ones : (c : ℕ) → c < 2 ^ 32 → bit_and (2 ^ 32 - 1) c ≡ c
and-ones c l = same_from_bits (bit_and (2 ^ 32 - 1) c) c (λ i. bit_at_and (2 ^ 32 - 1) c i ∙ each i (cases_lt i 32))
  where
    each : (i : ℕ) → (i < 32) ⊎ (32 ≤ i) → min (bit_at (2 ^ 32 - 1) i) (bit_at c i) ≡ bit_at c i
    each i (inl few) = ap (λ z. min z (bit_at c i)) (bit_at_ones 32 i few) ∙ least-one (bit_at c i) (bit_at-lt c i)
    each i (inr many) = ap (λ z. min z (bit_at c i)) (bit_at_ones_above 32 i many) ∙ least-zero (bit_at c i) ∙ sym (bit_at_above c 32 i l many)

abbrev pub swapped : Bool → ℕ → ℕ
swapped t x = if t then x else 2 ^ 32 - 1 - x

swapped-is : (t : Bool) (x : ℕ) → x < 2 ^ 32 → bit_xor x (sign_word t) ≡ swapped t x
swapped-is true x l = xor-none x
swapped-is false x l = xor-ones x l

swapped-below : (t : Bool) (x : ℕ) → x < 2 ^ 32 → swapped t x < 2 ^ 32
swapped-below true x l = l
swapped-below false x l = omega arith

masked-is : (t : Bool) (c : ℕ) → c < 2 ^ 32 → bit_and (sign_word t) c ≡ (if t then 0 else c)
masked-is true c l = and-none c
masked-is false c l = and-ones c l

not-zero : (c : ℕ) → 0 < c → (c == 0) ≡ false
not-zero c l = grind (arith, nat_tests, l)

-- ---- quotients

by-sign : (t : Bool) (x c : ℕ) → swapped t (swapped t x / c) ≡ (if t then x / c else 2 ^ 32 - 1 - (2 ^ 32 - 1 - x) / c)
by-sign true x c = refl
by-sign false x c = refl

quotient-is : (x c : ℕ) → 0 < c → swapped (nat_lt x (2 ^ 31)) (swapped (nat_lt x (2 ^ 31)) x / c) ≡ word.divide x c
unfolding word.divide
quotient-is x c lc =
    by-sign (nat_lt x (2 ^ 31)) x c
    ∙ sym (ap (λ b. if b then 0 else (if nat_lt x (2 ^ 31) then x / c else 2 ^ 32 - 1 - (2 ^ 32 - 1 - x) / c)) (not-zero c lc))

pub divide-below : (x c : ℕ) → x < 2 ^ 32 → 0 < c → word.divide x c < 2 ^ 32
divide-below x c lx lc =
    let t = nat_lt x (2 ^ 31) in
    let y = swapped-below t x lx in
    let d = div-le_self (swapped t x) c in
    subst (λ n. n < 2 ^ 32) (quotient-is x c lc) (swapped-below t (swapped t x / c) (omega (arith, y, d)))

-- ---- remainders

swapped-back : (c k : ℕ) → k < c → c < 2 ^ 32 → (2 ^ 32 - 1 - k + c) % 2 ^ 32 ≡ c - 1 - k
swapped-back c k l h = omega (arith, l, h)

stays : (k : ℕ) → k < 2 ^ 32 → (k + 0) % 2 ^ 32 ≡ k
stays k l = omega (arith, l)

by-sign-left : (t : Bool) (x c : ℕ) → 0 < c → c < 2 ^ 32
    → (swapped t (swapped t x % c) + (if t then 0 else c)) % 2 ^ 32 ≡ (if t then x % c else c - 1 - (2 ^ 32 - 1 - x) % c)
by-sign-left true x c lc hc = let k = mod-lt x lc in stays (x % c) (omega (arith, k, hc))
by-sign-left false x c lc hc = swapped-back c ((2 ^ 32 - 1 - x) % c) (mod-lt (2 ^ 32 - 1 - x) lc) hc

remainder-is : (x c : ℕ) → 0 < c → c < 2 ^ 32
    → (swapped (nat_lt x (2 ^ 31)) (swapped (nat_lt x (2 ^ 31)) x % c) + (if nat_lt x (2 ^ 31) then 0 else c)) % 2 ^ 32 ≡ word.remainder x c
unfolding word.remainder
remainder-is x c lc hc =
    by-sign-left (nat_lt x (2 ^ 31)) x c lc hc
    ∙ sym (ap (λ b. if b then 0 else (if nat_lt x (2 ^ 31) then x % c else c - 1 - (2 ^ 32 - 1 - x) % c)) (not-zero c lc))

pub remainder-below : (x c : ℕ) → 0 < c → c < 2 ^ 32 → word.remainder x c < 2 ^ 32
remainder-below x c lc hc = let e = remainder-is x c lc hc in
    let t = nat_lt x (2 ^ 31) in
    let s : (swapped t (swapped t x % c) + (if t then 0 else c)) % 2 ^ 32 < 2 ^ 32 = omega arith in
    subst (λ n. n < 2 ^ 32) e s

-- ---- code

module _ (w : World) (m : List ℕ) (l : length m ≡ w.size) (r a s : ℕ) (low : 20 ≤ r) (high : r < 32) (ha : a < 32) (hs : s < 32)
    (s13 : s ≢ scratch) (sr : s ≢ r) (f : ℕ → ℕ) (x c : ℕ) (ea : f a ≡ x) (es : f s ≡ c) (lx : x < 2 ^ 32) (lc : 0 < c) where
  abbrev t : Bool
  t = nat_lt x (2 ^ 31)

  n13 : scratch ≢ r
  n13 e = omega (arith, e, low)

  one : 1 ≤ r
  one = omega (arith, low)

  -- what is divided is turned first, and what comes of it again
  pub quotient-puts : a ≢ scratch
      → Puts w m (Shift shifts.Srai scratch a 31 ∷ Alu alus.Xor r a scratch ∷ Alu alus.Divu r r s ∷ Alu alus.Xor r r scratch ∷ []) f r (word.divide x c)
  quotient-puts n =
      let i1 = shift-sets w m l shifts.Srai f scratch a 31 x (omega arith) (omega arith) ha ea in
      let e1 = i1.value ∙ sign-is x lx in
      let i2 = alu-sets w m l alus.Xor i1.after r a scratch x (sign_word t) one high ha (omega arith) (i1.others a n ∙ ea) e1 in
      let e2 = i2.others scratch n13 ∙ e1 in
      let es2 = i2.others s sr ∙ i1.others s s13 ∙ es in
      let y = swapped-below t x lx in
      let d = div-le_self (swapped t x) c in
      let small : swapped t x / c < 2 ^ 32 = omega (arith, y, d) in
      let q : lanes.divide_unsigned 32 (swapped t x) c ≡ swapped t x / c = ap (λ b. if b then 2 ^ 32 - 1 else swapped t x / c) (not-zero c lc) in
      let i3 = alu-sets w m l alus.Divu i2.after r r s (swapped t x) c one high high hs (i2.value ∙ swapped-is t x lx) es2 in
      let i4 = alu-sets w m l alus.Xor i3.after r r scratch (swapped t x / c) (sign_word t) one high high (omega arith) (i3.value
      ∙ q) (i3.others scratch n13 ∙ e2) in
      let e : lanes.xor 32 (swapped t x / c) (sign_word t) ≡ word.divide x c = swapped-is t (swapped t x / c) small ∙ quotient-is x c lc in
      sets-then w m l i1 (inl refl) (sets-then w m l i2 (inr (inr refl)) (sets-then w m l i3 (inr (inr refl)) (puts-set w m l e i4)))

  pub remainder-puts : a ≢ scratch → c < 2 ^ 32
      → Puts w m
      (Shift shifts.Srai scratch a 31 ∷ Alu alus.Xor r a scratch ∷ Alu alus.Remu r r s ∷ Alu alus.Xor r r scratch ∷ Alu alus.And scratch scratch s
      ∷ Alu alus.Add r r scratch ∷ [])
      f r (word.remainder x c)
  remainder-puts n hc =
      let i1 = shift-sets w m l shifts.Srai f scratch a 31 x (omega arith) (omega arith) ha ea in
      let e1 = i1.value ∙ sign-is x lx in
      let i2 = alu-sets w m l alus.Xor i1.after r a scratch x (sign_word t) one high ha (omega arith) (i1.others a n ∙ ea) e1 in
      let e2 = i2.others scratch n13 ∙ e1 in
      let es2 = i2.others s sr ∙ i1.others s s13 ∙ es in
      let k = mod-lt (swapped t x) lc in
      let small : swapped t x % c < 2 ^ 32 = omega (arith, k, hc) in
      let q : lanes.remainder_unsigned 32 (swapped t x) c ≡ swapped t x % c = ap (λ b. if b then swapped t x else swapped t x % c) (not-zero c lc) in
      let i3 = alu-sets w m l alus.Remu i2.after r r s (swapped t x) c one high high hs (i2.value ∙ swapped-is t x lx) es2 in
      let e3 = i3.others scratch n13 ∙ e2 in
      let i4 = alu-sets w m l alus.Xor i3.after r r scratch (swapped t x % c) (sign_word t) one high high (omega arith) (i3.value ∙ q) e3 in
      let v4 = i4.value ∙ swapped-is t (swapped t x % c) small in
      let es4 = i4.others s sr ∙ i3.others s sr ∙ es2 in
      let i5 = alu-sets w m l alus.And i4.after scratch scratch s (sign_word t) c (omega arith) (omega arith) (omega arith) hs (i4.others scratch n13
      ∙ e3) es4 in
      let nr : r ≢ scratch = (λ e. omega (arith, e, low)) in
      let i6 = alu-sets w m l alus.Add i5.after r r scratch (swapped t (swapped t x % c)) (if t then 0 else c) one high high (omega arith) (i5.others r nr ∙ v4)
      (i5.value ∙ masked-is t c hc) in
      sets-then w m l i1 (inl refl) (sets-then w m l i2 (inr (inr refl)) (sets-then w m l i3 (inr (inr refl)) (sets-then w m l i4 (inr (inr refl))
      (sets-then w m l i5 (inl refl) (puts-set w m l (remainder-is x c lc hc) i6)))))

-- ---- from an operand, by a literal

module _ (scope : List Held) (r a s c : ℕ) (place : IsStack r) (sa : IsSource a) (which : (a ≡ r) ⊎ IsKept scope a) (lc : 0 < c) (hc : c < 2 ^ 32)
    (c0 c1 : List ℕ) (x : MakesHeld c0 c1 2 scope address_register s (λ hart values. c)) where
  low : 20 ≤ r
  low = place.0

  high : r < 32
  high = place.1

  a-stays : AreHolders scope → a ≢ address_register
  a-stays holders = by which
    where
      by : (a ≡ r) ⊎ IsKept scope a → a ≢ address_register
      by (inl e) g = omega (arith, e, g, low)
      by (inr h) g = working-free scope address_register holders (inl (omega arith, omega arith)) a h g

  s-apart : AreHolders scope → s ≢ r
  s-apart holders = by x.which
    where
      by : (s ≡ address_register) ⊎ IsKept scope s → s ≢ r
      by (inl e) g = omega (arith, e, g, low)
      by (inr h) g = working-free scope r holders (inr (low, high)) s h g

  made : {is : List Insn} (most : ℕ) (says : ℕ → ℕ) → length is ≤ most → {c2 : List ℕ} → Emits c1 c2 is
      → ((w : World) (m : List ℕ) (f : ℕ → ℕ) → length m ≡ w.size → f a < 2 ^ 32 → f s ≡ c → s ≢ r → Puts w m is f r (says (f a)))
      → ((v : ℕ) → v < 2 ^ 32 → says v < 2 ^ 32) → MakesFrom c0 c2 (2 + most) scope r a says
  made {is} most says few {c2} y go small = record {
    insns = x.insns ++ is;
    emits = emits_then x.emits y;
    short = short-then x.insns is 2 most (2 + most) x.short few (omega arith);
    does = λ w m hart values f l holders knows la.
        let free = working-free scope address_register holders (inl (omega arith, omega arith)) in
        let p = x.does w m hart values f l holders free knows in
        let e = p.others a (a-stays holders) sa.1.0 sa.1.1 in
        let q = go w m p.after l (subst (λ n. n < 2 ^ 32) (sym e) la) p.value (s-apart holders) in
        record {
          after = q.after;
          line = line-then w x.insns is f p.after q.after m m m p.line q.line;
          value = q.value ∙ ap says e;
          small = small (f a) la;
          keeps = λ n k. let k0 = k.0 in let k1 = k.1 in
              q.others n (λ g. omega (arith, g, k1, low, high)) (λ g. omega (arith, g, k0)) (λ g. omega (arith, g, k0))
              ∙ p.others n (λ g. omega (arith, g, k0)) (λ g. omega (arith, g, k0)) (λ g. omega (arith, g, k0));
        };
  }

  pub quotient-made : (c2 c3 c4 c5 : List ℕ) → Emits c1 c2 (Shift shifts.Srai scratch a 31 ∷ []) → Emits c2 c3 (Alu alus.Xor r a scratch ∷ [])
      → Emits c3 c4 (Alu alus.Divu r r s ∷ []) → Emits c4 c5 (Alu alus.Xor r r scratch ∷ []) → MakesFrom c0 c5 6 scope r a (λ v. word.divide v c)
  quotient-made c2 c3 c4 c5 e1 e2 e3 e4 =
      made 4 (λ v. word.divide v c) (omega arith) (emits_then e1 (emits_then e2 (emits_then e3 e4)))
      (λ w m f l la es sr. quotient-puts w m l r a s low high sa.0 x.source.0 x.source.1.0 sr f (f a) c refl es la lc sa.1.0)
      (λ v lv. divide-below v c lv lc)

  pub remainder-made : (c2 c3 c4 c5 c6 c7 : List ℕ) → Emits c1 c2 (Shift shifts.Srai scratch a 31 ∷ []) → Emits c2 c3 (Alu alus.Xor r a scratch ∷ [])
      → Emits c3 c4 (Alu alus.Remu r r s ∷ []) → Emits c4 c5 (Alu alus.Xor r r scratch ∷ []) → Emits c5 c6 (Alu alus.And scratch scratch s ∷ [])
      → Emits c6 c7 (Alu alus.Add r r scratch ∷ []) → MakesFrom c0 c7 8 scope r a (λ v. word.remainder v c)
  remainder-made c2 c3 c4 c5 c6 c7 e1 e2 e3 e4 e5 e6 =
      made 6 (λ v. word.remainder v c) (omega arith) (emits_then e1 (emits_then e2 (emits_then e3 (emits_then e4 (emits_then e5 e6)))))
      (λ w m f l la es sr. remainder-puts w m l r a s low high sa.0 x.source.0 x.source.1.0 sr f (f a) c refl es la lc sa.1.0 hc)
      (λ v lv. remainder-below v c lc hc)
