-- Quotients and remainders by powers of two, over lanes.
use Rattle.std.proofs.Common.{◌≡◌, ℕ, suc, ◌+◌, ◌-◌, ◌*◌, ◌/◌, ◌%◌, ◌^◌, ◌<◌, ◌≤◌, List, [], ◌∷◌, Bool, true, false}
use Rattle.std.proofs.Common.{refl, ap, ◌∙◌, sym, subst, arith, inl, inr}
use Rattle.std.specs.Prelude.{◌⊎◌, ◌==◌, if◌then◌else◌, nat_lt, pos, negsuc, bit_and}
use Rattle.std.specs.Int.{int_shr}
use Rattle.std.proofs.Math.Nat.{div-le_self, mod-lt}
use Rattle.std.proofs.Math.Pow.{low}
use Rattle.std.proofs.lemmas.Bool.{cases_lt}
use Rattle.std.proofs.lemmas.Bool.Decides.{nat_tests}
use Rattle.std.proofs.lemmas.Nat.{and_mask, pow-add, pow_pos}
use Rattle.rv_insn.specs.declared.instructions.Insn.TheVariants.{Vector}
use Rattle.rv_insn.specs.declared.vector_instructions.VectorInsn.TheVariants as v
use Rattle.rv_insn.specs.declared.vector_operations.ArithmeticVxOp.TheVariants as vxs
use Rattle.rv_insn.specs.declared.vector_operations.ShiftViOp.TheVariants as shifts
use Rattle.lanes.specs.Words as lanes
use Rattle.halide_pipeline.specs.Words as word
use Rattle.multi_hart_laws.specs.Paths.{lane}
use Rattle.multi_hart_laws.proofs.VectorRows as vector
use Rattle.task_code_scalar.specs.Words.{Emits}
use Rattle.task_code_values.proofs.Dividing.{divide-below, remainder-below}
use Rattle.task_code_lanes.specs.declared.groups.LaneGroup.{LaneGroup}
use Rattle.task_code_lanes.specs.Groups.{registers, slots, slot}
use Rattle.task_code_lanes.proofs.Slots.{slot-lies}
use Rattle.task_code_lanes.proofs.Rows as rows
use Rattle.task_code_lane_values.specs.inner.Parts.{ComputesOne, ComputesBy}
use Rattle.task_code_lane_values.proofs.Composing.{left-of}

not-none : (c : ℕ) → 0 < c → (c == 0) ≡ false
not-none c l = grind (arith, nat_tests, l)

-- ---- quotients

pub shift-is : (x k : ℕ) → x < 2 ^ 32 → k < 32 → lanes.shift_right_arithmetic 32 x k ≡ word.divide x (2 ^ k)
unfolding word.divide
shift-is x k l few =
    ap (λ j. lanes.wrapped 32 (int_shr (lanes.signed 32 x) j)) whole ∙ by-test (nat_lt x (2 ^ 31)) refl
    ∙ sym (ap (λ b. if b then 0 else (if nat_lt x (2 ^ 31) then x / 2 ^ k else 2 ^ 32 - 1 - (2 ^ 32 - 1 - x) / 2 ^ k)) (not-none (2 ^ k) (pow_pos k)))
  where
    whole : k % 32 ≡ k
    whole = omega (arith, few)

    by-test : (t : Bool) → nat_lt x (2 ^ 31) ≡ t → lanes.wrapped 32 (int_shr (lanes.signed 32 x) k)
        ≡ (if nat_lt x (2 ^ 31) then x / 2 ^ k else 2 ^ 32 - 1 - (2 ^ 32 - 1 - x) / 2 ^ k)
    by-test true e =
        let d = div-le_self x (2 ^ k) in
        let q : (x / 2 ^ k) % 2 ^ 32 ≡ x / 2 ^ k = omega (arith, d, l) in
        ap (λ t. lanes.wrapped 32 (int_shr (if t then pos x else negsuc (2 ^ 32 - suc x)) k)) e ∙ q
        ∙ sym (ap (λ t. if t then x / 2 ^ k else 2 ^ 32 - 1 - (2 ^ 32 - 1 - x) / 2 ^ k) e)
    by-test false e =
        let y = 2 ^ 32 - suc x in
        let d = div-le_self y (2 ^ k) in
        let g : 2 ^ 32 - suc ((y / 2 ^ k) % 2 ^ 32) ≡ 2 ^ 32 - 1 - y / 2 ^ k = omega (arith, d, l) in
        let h : y ≡ 2 ^ 32 - 1 - x = omega (arith, l) in
        ap (λ t. lanes.wrapped 32 (int_shr (if t then pos x else negsuc (2 ^ 32 - suc x)) k)) e ∙ g ∙ ap (λ n. 2 ^ 32 - 1 - n / 2 ^ k) h
        ∙ sym (ap (λ t. if t then x / 2 ^ k else 2 ^ 32 - 1 - (2 ^ 32 - 1 - x) / 2 ^ k) e)

-- ---- remainders

-- two numbers that make a multiple less one leave remainders that do so
low-parts : (k q s t : ℕ) → s < 2 ^ k → t < 2 ^ k → ((q * 2 ^ k + (s + t + 1)) % 2 ^ k ≡ 0) → s + t + 1 ≡ 2 ^ k
low-parts k q s t ls lt e = by (cases_lt (s + t + 1) (2 ^ k))
  where
    above : s + t + 1 ≡ 2 ^ k ⊎ ((2 ^ k ≤ s + t + 1) × (s + t + 1 ≡ 2 ^ k → ⊥)) → s + t + 1 ≡ 2 ^ k
    above (inl same) = same
    above (inr other) =
        let o = other.0 in
        let r = s + t + 1 - 2 ^ k in
        let lr : r < 2 ^ k = omega (arith, ls, lt, o) in
        let g : q * 2 ^ k + (s + t + 1) ≡ suc q * 2 ^ k + r = omega (arith, o) in
        let z : r ≡ 0 = sym (low (suc q) k lr) ∙ ap (λ n. n % 2 ^ k) (sym g) ∙ e in
        omega (arith, z, o)

    by : (s + t + 1 < 2 ^ k) ⊎ (2 ^ k ≤ s + t + 1) → s + t + 1 ≡ 2 ^ k
    by (inl l) = let z : s + t + 1 ≡ 0 = sym (low q k l) ∙ e in absurd (omega (arith, z))
    by (inr o) = above (split (cases_lt (2 ^ k) (s + t + 1)))
      where
        split : (2 ^ k < s + t + 1) ⊎ (s + t + 1 ≤ 2 ^ k) → (s + t + 1 ≡ 2 ^ k) ⊎ ((2 ^ k ≤ s + t + 1) × (s + t + 1 ≡ 2 ^ k → ⊥))
        split (inl more) = inr (o, (λ same. omega (arith, same, more)))
        split (inr less) = inl (omega (arith, o, less))

pub remainder-low : (x k : ℕ) → x < 2 ^ 32 → k < 32 → word.remainder x (2 ^ k) ≡ x % 2 ^ k
unfolding word.remainder
remainder-low x k l few =
    ap (λ b. if b then 0 else (if nat_lt x (2 ^ 31) then x % 2 ^ k else 2 ^ k - 1 - (2 ^ 32 - 1 - x) % 2 ^ k)) (not-none (2 ^ k) (pow_pos k))
    ∙ by-test (nat_lt x (2 ^ 31))
  where
    negative : 2 ^ k - 1 - (2 ^ 32 - 1 - x) % 2 ^ k ≡ x % 2 ^ k
    negative =
        let p = pow_pos k in
        let y = 2 ^ 32 - 1 - x in
        let s = x % 2 ^ k in
        let t = y % 2 ^ k in
        let ls : s < 2 ^ k = mod-lt x p in
        let lt : t < 2 ^ k = mod-lt y p in
        let dx : 2 ^ k * (x / 2 ^ k) + s ≡ x = omega (arith, p) in
        let dy : 2 ^ k * (y / 2 ^ k) + t ≡ y = omega (arith, p) in
        let both : (x / 2 ^ k + y / 2 ^ k) * 2 ^ k + (s + t + 1) ≡ 2 ^ 32 = omega (arith, dx, dy, l) in
        let n : 32 - k + k ≡ 32 = omega (arith, few) in
        let whole : 2 ^ 32 ≡ 2 ^ (32 - k) * 2 ^ k + 0 = ap (λ j. 2 ^ j) (sym n) ∙ pow-add 2 (32 - k) k ∙ (let g : 2 ^ (32 - k) * 2 ^ k ≡ 2 ^
        (32 - k) * 2 ^ k + 0 =
        omega arith in g) in
        let e = ap (λ j. j % 2 ^ k) (both ∙ whole) ∙ low (2 ^ (32 - k)) k p in
        let g = low-parts k (x / 2 ^ k + y / 2 ^ k) s t ls lt e in
        omega (arith, g)

    by-test : (t : Bool) → (if t then x % 2 ^ k else 2 ^ k - 1 - (2 ^ 32 - 1 - x) % 2 ^ k) ≡ x % 2 ^ k
    by-test true = refl
    by-test false = negative

-- ---- lanes

module _ (group : LaneGroup) (k : ℕ) (in-stack : k < slots group) (c e : ℕ) (few : e < 32) (is : c ≡ 2 ^ e) (c0 c1 : List ℕ) where
  abbrev r : ℕ
  r = slot group k

  some : 0 < c
  some = subst (λ n. 0 < n) (sym is) (pow_pos e)

  pub quotient-shifted : Emits c0 c1 (Vector (v.ShiftVi shifts.Vsra r r e true) ∷ []) → ComputesOne c0 c1 group k (λ x. word.divide x c)
  quotient-shifted z = record {
    insns = Vector (v.ShiftVi shifts.Vsra r r e true) ∷ [];
    emits = z;
    does = λ w m n f x l has hx lx.
        let lies = slot-lies group k in-stack in
        left-of w m l group n (Vector (v.ShiftVi shifts.Vsra r r e true) ∷ []) f k (λ i. word.divide (x i) c) (λ i b. divide-below (x i) c (lx i b) some)
        (rows.last w m l group n k lies (rows.writes w m l group n (λ i. word.divide (x i) c) (λ i. lanes.shift_right_arithmetic 32 (f (lane r i)) e) has
        (vector.shift-vi w f m l (registers group) has.configured shifts.Vsra r r e lies.is_group lies.is_group)
        (λ i b. ap (λ z. lanes.shift_right_arithmetic 32 z e) (hx i b) ∙ shift-is (x i) e (lx i b) few ∙ ap (word.divide (x i)) (sym is))));
  }

  -- a register has all bits of a remainder
  pub remainder-masked : (s : ℕ) → s < 32 → c < 2 ^ 32 → Emits c0 c1 (Vector (v.ArithmeticVx vxs.Vand r r s true) ∷ []) → ComputesBy c0 c1 group k s
      (λ d. d ≡ c - 1) (λ x d. word.remainder x c)
  remainder-masked s low lc z = record {
    insns = Vector (v.ArithmeticVx vxs.Vand r r s true) ∷ [];
    emits = z;
    does = λ w m n f x d l has hx lx es ld same.
        let lies = slot-lies group k in-stack in
        let ed : f s % 2 ^ 32 ≡ d = omega (arith, es, ld) in
        left-of w m l group n (Vector (v.ArithmeticVx vxs.Vand r r s true) ∷ []) f k (λ i. word.remainder (x i) c) (λ i b. remainder-below (x i) c some lc)
        (rows.last w m l group n k lies (rows.writes w m l group n (λ i. word.remainder (x i) c) (λ i. bit_and (f (lane r i)) (f s % 2 ^ 32)) has
        (vector.arithmetic-vx w f m l (registers group) has.configured vxs.Vand r r s lies.is_group lies.is_group low)
        (λ i b. ap (λ z. bit_and z (f s % 2 ^ 32)) (hx i b) ∙ ap (bit_and (x i)) (ed ∙ same ∙ ap (λ n. n - 1) is) ∙ and_mask (x i) e ∙ sym (remainder-low
        (x i) e (lx i b) few)
        ∙ ap (word.remainder (x i)) (sym is))));
  }

pub shifted-as : (group : LaneGroup) (k : ℕ) → k < slots group → (c e : ℕ) → e < 32 → c ≡ 2 ^ e → (a : ℕ) (c0 c1 : List ℕ) → a ≡ slot group k → Emits c0 c1
    (Vector (v.ShiftVi shifts.Vsra a a e true) ∷ [])
    → ComputesOne c0 c1 group k (λ x. word.divide x c)
shifted-as group k in-stack c e few is a c0 c1 ea z = quotient-shifted group k in-stack c e few is c0 c1 (subst (λ y. Emits c0 c1 (Vector
    (v.ShiftVi shifts.Vsra y y e true) ∷ [])) ea z)

pub masked-as : (group : LaneGroup) (k : ℕ) → k < slots group → (c e s : ℕ) → e < 32 → c ≡ 2 ^ e → c < 2 ^ 32 → s < 32 → (a : ℕ) (c0 c1 : List ℕ) → a ≡ slot group k
    → Emits c0 c1 (Vector (v.ArithmeticVx vxs.Vand a a s true) ∷ []) → ComputesBy c0 c1 group k s (λ d. d ≡ c - 1) (λ x d. word.remainder x c)
masked-as group k in-stack c e s few is lc ls a c0 c1 ea z =
    remainder-masked group k in-stack c e few is c0 c1 s ls lc (subst (λ y. Emits c0 c1 (Vector (v.ArithmeticVx vxs.Vand y y s true) ∷ [])) ea z)
