-- The digits of a check sum spell it.
use Rattle.std.proofs.Common.{◌≡◌, ◌≢◌, ℕ, ◌+◌, ◌*◌, ◌/◌, ◌%◌, ◌<◌, ◌≤◌, nat_lt, cond, Bool, true, false, refl, arith}
use Rattle.std.proofs.Math.Nat.{mod-add-div}
use Rattle.line_text.specs.Lines.{is_hexadecimal, hexadecimal_value}
use Rattle.gdb_packets.specs.Packets.{digit, is_sum}

-- what a digit is
pub record Spells (value byte : ℕ) : Type 0 where
  pub is : is_hexadecimal byte ≡ true
  pub means : hexadecimal_value byte ≡ value
  pub other : byte ≢ 36

by_test : (value : ℕ) (test : Bool) → value < 16 → nat_lt value 10 ≡ test → Spells value (cond test (48 + value) (87 + value))
by_test value true small e =
    let h : value < 10 = grind (arith, e) in
    record { is = grind arith; means = grind arith; other = omega (arith, h) }
by_test value false small e =
    let h : 10 ≤ value = grind (arith, e) in
    record { is = grind arith; means = grind arith; other = omega (arith, h) }

pub spells : (value : ℕ) → value < 16 → Spells value (digit value)
spells value small = by_test value (nat_lt value 10) small refl

pub sum_spelled : (number : ℕ) → number < 256 → is_sum number (digit (number / 16)) (digit (number % 16)) ≡ true
sum_spelled number small =
    let high = spells (number / 16) (omega arith) in
    let low = spells (number % 16) (omega arith) in
    let whole : number / 16 * 16 + number % 16 ≡ number = omega (arith, mod-add-div number 16) in
    rw (high.is, low.is, high.means, low.means) (grind (arith, whole))
