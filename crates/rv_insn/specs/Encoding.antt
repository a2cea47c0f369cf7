-- Rows of an instruction table: which bits of a word are fixed, and where its fields stand.
-- RISC-V Unprivileged ISA 20191213, sections 2.2 "Base Instruction Formats" and 2.3 "Immediate Encoding Variants".
use Rattle.std.specs.Prelude.{◌≡◌, ℕ, ◌+◌, ◌-◌, ◌*◌, ◌/◌, ◌%◌, ◌^◌, ℤ, pos, ◌-ℤ◌, List, [], ◌∷◌, ◌++◌, length, cond, nat_lt, Bool}
use Rattle.std.proofs.Common.{zero, suc}
use Rattle.std.specs.Int.{bit_at}
use Rattle.rv_insn.specs.declared.vector_instructions.Addressing.{Addressing}
use Rattle.rv_insn.specs.declared.vector_instructions.Addressing.TheVariants as addressings
use Rattle.rv_insn.specs.declared.vector_operations.AddressMode.{AddressMode}
use Rattle.rv_insn.specs.declared.vector_operations.AddressMode.TheVariants as modes

-- Each pair is a position, 0 for the lowest bit of the word, and the bit that is there.
unfoldable pub Holds : ℕ → List (ℕ × ℕ) → Type 0
Holds word [] = Unit {0}
Holds word (pair ∷ pairs) = (bit_at word pair.0 ≡ pair.1) × Holds word pairs

-- the number whose digits stand at these positions, the lowest digit first
unfoldable pub number_at : ℕ → List ℕ → ℕ
number_at word [] = 0
number_at word (place ∷ places) = bit_at word place + 2 * number_at word places

-- a number of this many binary digits, of which the highest counts negative
abbrev pub signed : ℕ → ℕ → ℤ
signed digits n = cond (nat_lt n (2 ^ (digits - 1))) (pos n) (pos n -ℤ pos (2 ^ digits))

-- a flag as a digit
abbrev pub bit_of : Bool → ℕ
bit_of b = cond b 1 0

-- this many positions from `low` upwards
unfoldable pub span : ℕ → ℕ → List ℕ
span low zero = []
span low (suc count) = low ∷ span (low + 1) count

-- the pairs that put the digits of `value` at the positions
unfoldable pub fixed : List ℕ → ℕ → List (ℕ × ℕ)
fixed [] value = []
fixed (place ∷ places) value = (place, value % 2) ∷ fixed places (value / 2)

-- the pairs that put numbers at spans of positions: each is a lowest position, a count of digits and a number
unfoldable pub in_parts : List (ℕ × ℕ × ℕ) → List (ℕ × ℕ)
in_parts [] = []
in_parts (p ∷ parts) = fixed (span p.0 p.1) p.2 ++ in_parts parts

-- where a field's digits stand, the lowest first, and whether the highest counts negative
pub data Field : Type 0 where
  Unsigned : (places : List ℕ) → Field
  Signed : (places : List ℕ) → Field

-- the number that is in a field of a word
abbrev pub field_of : ℕ → Field → ℤ
field_of word (Unsigned places) = pos (number_at word places)
field_of word (Signed places) = signed (length places) (number_at word places)

-- one row of an instruction table
pub record Row : Type 0 where
  pub name : List ℕ
  pub pairs : List (ℕ × ℕ)
  pub fields : List Field

-- ---- How a vector load or store is addressed: its mode, and the register that the mode names beside rs1.
-- RISC-V Vector Extension 1.0, section 7.2 "Vector Load/Store Addressing Modes".

abbrev pub mode_of : Addressing → AddressMode
mode_of addressings.UnitStride = modes.UnitStride
mode_of (addressings.Strided rs2) = modes.Strided
mode_of (addressings.Indexed vs2) = modes.Indexed

-- the number of the register that holds strides or offsets, if there is one
abbrev pub offset_fields : Addressing → List ℤ
offset_fields addressings.UnitStride = []
offset_fields (addressings.Strided rs2) = pos rs2 ∷ []
offset_fields (addressings.Indexed vs2) = pos vs2 ∷ []
