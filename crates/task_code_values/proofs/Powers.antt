-- Quotients and remainders by powers of two.
use Rattle.std.proofs.Common.{◌≡◌, ℕ, suc, ◌+◌, ◌-◌, ◌*◌, ◌/◌, ◌%◌, ◌^◌, ◌<◌, ◌≤◌, List, [], ◌∷◌, Bool, true, false}
use Rattle.std.proofs.Common.{refl, ap, ◌∙◌, sym, subst, arith, inl, inr}
use Rattle.std.specs.Prelude.{◌⊎◌, ◌==◌, if◌then◌else◌, nat_lt, pos, negsuc, bit_and, is_some, Option, Some, None, IfSome}
use Rattle.std.specs.Int.{int_shr}
use Rattle.std.proofs.Math.Nat.{div-le_self, mod-lt}
use Rattle.std.proofs.Math.Pow.{low}
use Rattle.std.proofs.lemmas.Bool.{cases_lt, true≢false}
use Rattle.std.proofs.lemmas.Bool.Decides.{nat_tests}
use Rattle.std.proofs.lemmas.Nat.{and_mask, pow-add, pow_pos}
use Rattle.rv_insn.specs.declared.instructions.Insn.TheVariants.{AluImm, Shift}
use Rattle.rv_insn.specs.declared.operations.AluImmOp.TheVariants as alu_imms
use Rattle.rv_insn.specs.declared.operations.ShiftOp.TheVariants as shifts
use Rattle.hart_core.specs.Scalar.{extended}
use Rattle.lanes.specs.Words as lanes
use Rattle.halide_pipeline.specs.Words as word
use Rattle.task_code_scalar.specs.Code.{lower}
use Rattle.task_code_scalar.specs.Words.{Emits}
use Rattle.task_code_scalar.proofs.Values.{imm-sets, shift-sets}
use Rattle.task_code_registers.specs.declared.scopes.Held.{Held}
use Rattle.task_code_registers.specs.Registers.{IsSource}
use Rattle.task_code_values.specs.Making.{IsStack, MakesFrom}
use Rattle.task_code_values.proofs.Dividing.{divide-below, remainder-below}
use Rattle.task_code_values.proofs.Pointing.{small-lower}

not-none : (c : ℕ) → 0 < c → (c == 0) ≡ false
not-none c l = grind (arith, nat_tests, l)

-- ---- quotients

shift-is : (x k : ℕ) → x < 2 ^ 32 → k < 32 → lanes.shift_right_arithmetic 32 x k ≡ word.divide x (2 ^ k)
unfolding word.divide
shift-is x k l few =
    ap (λ j. lanes.wrapped 32 (int_shr (lanes.signed 32 x) j)) whole ∙ by-test (nat_lt x (2 ^ 31)) refl
    ∙ sym (ap (λ b. if b then 0 else (if nat_lt x (2 ^ 31) then x / 2 ^ k else 2 ^ 32 - 1 - (2 ^ 32 - 1 - x) / 2 ^ k)) (not-none (2 ^ k) (pow_pos k)))
  where
    whole : k % 32 ≡ k
    whole = omega (arith, few)

    by-test : (t : Bool) → nat_lt x (2 ^ 31) ≡ t → lanes.wrapped 32 (int_shr (lanes.signed 32 x) k)
        ≡ (if nat_lt x (2 ^ 31) then x / 2 ^ k else 2 ^ 32 - 1 - (2 ^ 32 - 1 - x) / 2 ^ k)
    by-test true e =
        let d = div-le_self x (2 ^ k) in
        let q : (x / 2 ^ k) % 2 ^ 32 ≡ x / 2 ^ k = omega (arith, d, l) in
        ap (λ t. lanes.wrapped 32 (int_shr (if t then pos x else negsuc (2 ^ 32 - suc x)) k)) e ∙ q
        ∙ sym (ap (λ t. if t then x / 2 ^ k else 2 ^ 32 - 1 - (2 ^ 32 - 1 - x) / 2 ^ k) e)
    by-test false e =
        let y = 2 ^ 32 - suc x in
        let d = div-le_self y (2 ^ k) in
        let g : 2 ^ 32 - suc ((y / 2 ^ k) % 2 ^ 32) ≡ 2 ^ 32 - 1 - y / 2 ^ k = omega (arith, d, l) in
        let h : y ≡ 2 ^ 32 - 1 - x = omega (arith, l) in
        ap (λ t. lanes.wrapped 32 (int_shr (if t then pos x else negsuc (2 ^ 32 - suc x)) k)) e ∙ g ∙ ap (λ n. 2 ^ 32 - 1 - n / 2 ^ k) h
        ∙ sym (ap (λ t. if t then x / 2 ^ k else 2 ^ 32 - 1 - (2 ^ 32 - 1 - x) / 2 ^ k) e)

-- ---- remainders

-- two numbers that make a multiple less one leave remainders that do so
low-parts : (k q s t : ℕ) → s < 2 ^ k → t < 2 ^ k → ((q * 2 ^ k + (s + t + 1)) % 2 ^ k ≡ 0) → s + t + 1 ≡ 2 ^ k
low-parts k q s t ls lt e = by (cases_lt (s + t + 1) (2 ^ k))
  where
    above : s + t + 1 ≡ 2 ^ k ⊎ ((2 ^ k ≤ s + t + 1) × (s + t + 1 ≡ 2 ^ k → ⊥)) → s + t + 1 ≡ 2 ^ k
    above (inl same) = same
    above (inr other) =
        let o = other.0 in
        let r = s + t + 1 - 2 ^ k in
        let lr : r < 2 ^ k = omega (arith, ls, lt, o) in
        let g : q * 2 ^ k + (s + t + 1) ≡ suc q * 2 ^ k + r = omega (arith, o) in
        let z : r ≡ 0 = sym (low (suc q) k lr) ∙ ap (λ n. n % 2 ^ k) (sym g) ∙ e in
        omega (arith, z, o)

    by : (s + t + 1 < 2 ^ k) ⊎ (2 ^ k ≤ s + t + 1) → s + t + 1 ≡ 2 ^ k
    by (inl l) = let z : s + t + 1 ≡ 0 = sym (low q k l) ∙ e in absurd (omega (arith, z))
    by (inr o) = above (split (cases_lt (2 ^ k) (s + t + 1)))
      where
        split : (2 ^ k < s + t + 1) ⊎ (s + t + 1 ≤ 2 ^ k) → (s + t + 1 ≡ 2 ^ k) ⊎ ((2 ^ k ≤ s + t + 1) × (s + t + 1 ≡ 2 ^ k → ⊥))
        split (inl more) = inr (o, (λ same. omega (arith, same, more)))
        split (inr less) = inl (omega (arith, o, less))

remainder-low : (x k : ℕ) → x < 2 ^ 32 → k < 32 → word.remainder x (2 ^ k) ≡ x % 2 ^ k
unfolding word.remainder
remainder-low x k l few =
    ap (λ b. if b then 0 else (if nat_lt x (2 ^ 31) then x % 2 ^ k else 2 ^ k - 1 - (2 ^ 32 - 1 - x) % 2 ^ k)) (not-none (2 ^ k) (pow_pos k))
    ∙ by-test (nat_lt x (2 ^ 31))
  where
    negative : 2 ^ k - 1 - (2 ^ 32 - 1 - x) % 2 ^ k ≡ x % 2 ^ k
    negative =
        let p = pow_pos k in
        let y = 2 ^ 32 - 1 - x in
        let s = x % 2 ^ k in
        let t = y % 2 ^ k in
        let ls : s < 2 ^ k = mod-lt x p in
        let lt : t < 2 ^ k = mod-lt y p in
        let dx : 2 ^ k * (x / 2 ^ k) + s ≡ x = omega (arith, p) in
        let dy : 2 ^ k * (y / 2 ^ k) + t ≡ y = omega (arith, p) in
        let both : (x / 2 ^ k + y / 2 ^ k) * 2 ^ k + (s + t + 1) ≡ 2 ^ 32 = omega (arith, dx, dy, l) in
        let n : 32 - k + k ≡ 32 = omega (arith, few) in
        let whole : 2 ^ 32 ≡ 2 ^ (32 - k) * 2 ^ k + 0 = ap (λ j. 2 ^ j) (sym n) ∙ pow-add 2 (32 - k) k
        ∙ (let g : 2 ^ (32 - k) * 2 ^ k ≡ 2 ^ (32 - k) * 2 ^ k + 0 =
        omega arith in g) in
        let e = ap (λ j. j % 2 ^ k) (both ∙ whole) ∙ low (2 ^ (32 - k)) k p in
        let g = low-parts k (x / 2 ^ k + y / 2 ^ k) s t ls lt e in
        omega (arith, g)

    by-test : (t : Bool) → (if t then x % 2 ^ k else 2 ^ k - 1 - (2 ^ 32 - 1 - x) % 2 ^ k) ≡ x % 2 ^ k
    by-test true = refl
    by-test false = negative

-- ---- in one instruction

module _ (scope : List Held) (r a c k : ℕ) (place : IsStack r) (source : IsSource a) (few : k < 32) (is : c ≡ 2 ^ k) (c0 c1 : List ℕ) where
  not-own : (q : ℕ) → (q < r) ⊎ (31 < q) → q ≡ r → ⊥
  not-own q below e = let high = place.1 in omega (arith, below, e, high)

  some : 0 < c
  some = subst (λ n. 0 < n) (sym is) (pow_pos k)

  pub quotient-shifted : Emits c0 c1 (Shift shifts.Srai r a k ∷ []) → MakesFrom c0 c1 6 scope r a (λ v. word.divide v c)
  quotient-shifted x = record {
    insns = Shift shifts.Srai r a k ∷ [];
    emits = x;
    short = omega arith;
    does = λ w m hart values f l holders knows la.
        let from = place.0 in
        let i = shift-sets w m l shifts.Srai f r a k (f a) (omega (arith, from)) place.1 source.0 refl in
        record {
          after = i.after;
          line = i.line;
          value = i.value ∙ shift-is (f a) k la few ∙ ap (word.divide (f a)) (sym is);
          small = divide-below (f a) c la some;
          keeps = λ q kept. i.others q (not-own q kept.1);
        };
  }

  pub remainder-masked : c ≤ 2048 → Emits c0 c1 (AluImm alu_imms.Andi r a (lower (c - 1)) ∷ []) → MakesFrom c0 c1 8 scope r a (λ v. word.remainder v c)
  remainder-masked small x = record {
    insns = AluImm alu_imms.Andi r a (lower (c - 1)) ∷ [];
    emits = x;
    short = omega arith;
    does = λ w m hart values f l holders knows la.
        let from = place.0 in
        let i = imm-sets w m l alu_imms.Andi f r a (lower (c - 1)) (f a) (omega (arith, from)) place.1 source.0 refl in
        let e : extended (lower (c - 1)) ≡ c - 1 = small-lower (c - 1) (inl (omega (arith, small))) (omega (arith, small)) in
        record {
          after = i.after;
          line = i.line;
          value = i.value ∙ ap (bit_and (f a)) (e ∙ ap (λ n. n - 1) is) ∙ and_mask (f a) k ∙ sym (remainder-low (f a) k la few)
              ∙ ap (word.remainder (f a)) (sym is);
          small = remainder-below (f a) c some (omega (arith, small));
          keeps = λ q kept. i.others q (not-own q kept.1);
        };
  }

-- ---- as the emitters call them

pub record IsPower (c : ℕ) : Type 0 where
  pub exponent : ℕ
  pub few : exponent < 32
  pub is : c ≡ 2 ^ exponent

pub some-power : (c : ℕ) (found : Option ℕ) (t : Bool) → t ≡ is_some found → t ≡ true → IfSome found (λ k. (k < 32) × (c ≡ 2 ^ k)) → IsPower c
some-power c None t e f is = absurd (true≢false (sym f ∙ e))
some-power c (Some k) t e f is = record { exponent = k; few = is.0; is = is.1 }
