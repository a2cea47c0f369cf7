-- What a few vector instructions make of lanes: masks as numbers, and signs. This project's own.
use Rattle.std.specs.Prelude.{ℕ, true, List, [], ◌∷◌, pos}
use Rattle.rv_insn.specs.declared.instructions.Insn.{Insn}
use Rattle.rv_insn.specs.declared.instructions.Insn.TheVariants.{Vector}
use Rattle.rv_insn.specs.declared.vector_instructions.VectorInsn.TheVariants as v
use Rattle.rv_insn.specs.declared.vector_operations.ArithmeticVvOp.TheVariants as vvs
use Rattle.rv_insn.specs.declared.vector_operations.ShiftViOp.TheVariants as shifts
use Rattle.rv_insn.specs.declared.vector_operations.CompareVvOp.{CompareVvOp}

-- each lane becomes its mask bit
abbrev pub flagged : ℕ → List Insn
flagged r = Vector (v.MoveVi r (pos 0)) ∷ Vector (v.MergeVi r r (pos 1)) ∷ []

abbrev pub compared : CompareVvOp → ℕ → ℕ → ℕ → List Insn
compared o r a b = Vector (v.CompareVv o 0 a b true) ∷ flagged r

-- u becomes 2^32 - 1 in each lane that is negative, and 0 in all others
abbrev pub lanes_sign : ℕ → ℕ → List Insn
lanes_sign r u = Vector (v.ShiftVi shifts.Vsra u r 31 true) ∷ []

-- The word 2^32 - 1 - n stands for -1 - n: so each lane that is negative becomes its complement, by the signs in u.
abbrev pub lanes_swapped : ℕ → ℕ → List Insn
lanes_swapped r u = Vector (v.ArithmeticVv vvs.Vxor r r u true) ∷ []
