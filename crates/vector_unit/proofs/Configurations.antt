-- What a supported vtype says: its widths and its groups.
use Rattle.std.proofs.Common.{◌≡◌, ℕ, zero, suc, ◌*◌, ◌/◌, ◌%◌, ◌^◌, ◌≤◌, true, false, refl, arith, inl, inr, ◌&&◌}
use Rattle.std.specs.Prelude.{nat_lt, nat_le}
use Rattle.std.proofs.lemmas.Bool.{and_parts, leb-true, not-false}
use Rattle.lanes.specs.Words.{IsWidth}
use Rattle.rv_insn.specs.declared.vector_operations.ElementWidth.{ElementWidth}
use Rattle.rv_insn.specs.declared.vector_operations.ElementWidth.TheVariants.{Bits8, Bits16, Bits32}
use Rattle.vector_unit.specs.Vector.{Vectors, is_supported, has_vill, vlmul_of, vsew_of, group_of, most_elements, bits_of, width, group, group_at, count}

few : (k : ℕ) → k ≤ 2 → 2 ^ k ≤ 4
few zero l = omega arith
few (suc zero) l = omega arith
few (suc (suc zero)) l = omega arith
few (suc (suc (suc k))) l = absurd (omega arith)

pub few_registers : (vtype : ℕ) → is_supported vtype ≡ true → 2 ^ (vtype % 8) ≤ 4
few_registers vtype e = few (vtype % 8) (leb-true (vtype % 8) 2 (and_parts (nat_lt vtype 256) (nat_le (vlmul_of vtype) 2) (and_parts (nat_lt vtype 256
    && nat_le (vlmul_of vtype) 2) (nat_le (vsew_of vtype) 2) e).0).1)

a_width : (k : ℕ) → k ≤ 2 → IsWidth (8 * 2 ^ k)
a_width zero l = inl refl
a_width (suc zero) l = inr (inl refl)
a_width (suc (suc zero)) l = inr (inr refl)
a_width (suc (suc (suc k))) l = absurd (omega arith)

pub is_width : (state : Vectors) → has_vill state ≡ false → IsWidth (width state)
is_width state e =
    a_width (vsew_of state.vtype)
    (leb-true (vsew_of state.vtype) 2 (and_parts (nat_lt state.vtype 256 && nat_le (vlmul_of state.vtype) 2) (nat_le (vsew_of state.vtype) 2)
    (not-false (is_supported state.vtype) e)).1)

pub is_small : (state : Vectors) → has_vill state ≡ false → group state ≤ 4
is_small state e = few_registers state.vtype (not-false (is_supported state.vtype) e)

small_width : (vtype : ℕ) → is_supported vtype ≡ true → vsew_of vtype ≤ 2
small_width vtype e = leb-true (vsew_of vtype) 2 (and_parts (nat_lt vtype 256 && nat_le (vlmul_of vtype) 2) (nat_le (vsew_of vtype) 2) e).1

few_of : (g k : ℕ) → g ≤ 4 → k ≤ 2 → 128 * g / (8 * 2 ^ k) ≤ 64
few_of g zero m l = omega (arith, m)
few_of g (suc zero) m l = omega (arith, m)
few_of g (suc (suc zero)) m l = omega (arith, m)
few_of g (suc (suc (suc k))) m l = absurd (omega (arith, l))

-- a supported group has at most 64 elements
pub few_elements : (vtype : ℕ) → is_supported vtype ≡ true → most_elements vtype ≤ 64
few_elements vtype e = few_of (group_of vtype) (vsew_of vtype) (few_registers vtype e) (small_width vtype e)

by_count : (w : ElementWidth) (g k : ℕ) → k ≤ 2 → bits_of w * (128 * g / (8 * 2 ^ k)) / 128 ≡ bits_of w * g / (8 * 2 ^ k)
by_count Bits8 g zero l = omega arith
by_count Bits8 g (suc zero) l = omega arith
by_count Bits8 g (suc (suc zero)) l = omega arith
by_count Bits16 g zero l = omega arith
by_count Bits16 g (suc zero) l = omega arith
by_count Bits16 g (suc (suc zero)) l = omega arith
by_count Bits32 g zero l = omega arith
by_count Bits32 g (suc zero) l = omega arith
by_count Bits32 g (suc (suc zero)) l = omega arith
by_count w g (suc (suc (suc k))) l = absurd (omega (arith, l))

-- registers of elements of a width, counted by the elements
pub group_by_count : (state : Vectors) (w : ElementWidth) → has_vill state ≡ false → bits_of w * count state / 128 ≡ group_at state w
group_by_count state w e = by_count w (group state) (vsew_of state.vtype) (small_width state.vtype (not-false (is_supported state.vtype) e))

of_word : (k : ℕ) → k ≡ 2 → 8 * 2 ^ k ≡ 32
of_word k e = rw e refl

of_single : (k : ℕ) → k ≡ 0 → 2 ^ k ≡ 1
of_single k e = rw e refl

-- a vtype of words in groups of one register
pub single_words : (vtype : ℕ) → vtype % 64 ≡ 16 → (8 * 2 ^ (vtype / 8 % 8) ≡ 32) × (2 ^ (vtype % 8) ≡ 1)
single_words vtype e = (of_word (vtype / 8 % 8) (omega (arith, e)), of_single (vtype % 8) (omega (arith, e)))

by_one : (v : ℕ) → v % 1 ≡ 0
by_one v = omega arith
