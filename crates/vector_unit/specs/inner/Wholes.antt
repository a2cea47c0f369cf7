-- Whole groups of words: the words of private functions, which a reader need not believe.
use Rattle.std.specs.Prelude.{◌≡◌, ◌≤◌, ◌==◌, ◌%◌, ◌^◌, ◌&&◌, ℕ, zero, suc, ◌+◌, Bool, false, nat_le, List, replicate}
use Rattle.lanes.specs.Words as word
use Rattle.lanes.specs.Words.{elements, register_of, zip_with}
use Rattle.vector_unit.specs.declared.operands.OtherOperand.{OtherOperand}
use Rattle.vector_unit.specs.declared.operands.OtherOperand.TheVariants.{Register, Number, Immediate, Amount}
use Rattle.vector_unit.specs.Vector.{Vectors, register, with_register, has_vill, is_supported, vsew_of, most_elements, width, count}

-- whether elements are words, and this many are all of a group
abbrev pub is_whole_of : ℕ → ℕ → Bool
is_whole_of vtype vl = is_supported vtype && (vsew_of vtype == 2 && nat_le (most_elements vtype) vl)

-- elements are words, and an instruction that isn't masked works on all of a group
pub record IsWhole (state : Vectors) : Type 0 where
  pub configured : has_vill state ≡ false
  pub words : width state ≡ 32
  pub full : count state ≤ state.vl

-- the words of a register of a group
abbrev pub words_in : Vectors → ℕ → ℕ → List ℕ
words_in state v part = elements 32 (register state (v + part))

-- a register's worth of an operand
abbrev pub words_of : Vectors → OtherOperand → ℕ → List ℕ
words_of state (Register v) part = words_in state v part
words_of state (Number n) part = replicate 4 (n % 2 ^ 32)
words_of state (Immediate imm) part = replicate 4 (word.wrapped 32 imm)
words_of state (Amount amount) part = replicate 4 amount

-- what an operation makes of a register's pairs
abbrev pub paired_words : Vectors → (ℕ → ℕ → ℕ) → ℕ → OtherOperand → ℕ → List ℕ
paired_words state f vs2 other part = zip_with f (words_in state vs2 part) (words_of state other part)

-- this many registers of a group from a part on with elements of a width
abbrev pub with_each : Vectors → ℕ → ℕ → (ℕ → List ℕ) → ℕ → ℕ → Vectors
with_each state w vd each part zero = state
with_each state w vd each part (suc others) = with_register (with_each state w vd each (part + 1) others) (vd + part) (register_of w (each part))
