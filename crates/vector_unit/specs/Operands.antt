-- The other operand of an instruction, beside vs2, as a list of elements in the state's configuration.
-- RISC-V Vector Extension 1.0, section 10.1 "Vector Arithmetic Instruction encoding" has the forms.
use Rattle.std.specs.Prelude.{ℕ, List, replicate, Option, Some, None}
use Rattle.rv_insn.specs.declared.vector_instructions.VectorInsn.{VectorInsn}
use Rattle.rv_insn.specs.declared.vector_instructions.VectorInsn.TheVariants as v
use Rattle.vector_unit.specs.declared.operands.OtherOperand.{OtherOperand}
use Rattle.vector_unit.specs.declared.operands.OtherOperand.TheVariants.{Register, Number, Immediate, Amount}
use Rattle.vector_unit.specs.declared.operands.PairOperands.{PairOperands}
use Rattle.vector_unit.specs.Vector.{Vectors, count, of_group, of_scalar, of_immediate}

abbrev pub operand_elements : Vectors → OtherOperand → List ℕ
operand_elements state (Register v) = of_group state v
operand_elements state (Number n) = of_scalar state n
operand_elements state (Immediate imm) = of_immediate state imm
operand_elements state (Amount amount) = replicate (count state) amount

-- the operands of a row that works on pairs of elements, where the integer register that it names has this number
abbrev pub pair_of : VectorInsn → ℕ → Option PairOperands
pair_of (v.ArithmeticVv o vd vs2 vs1 vm) number = Some (record { vd = vd; vs2 = vs2; other = Register vs1; vm = vm })
pair_of (v.ArithmeticVx o vd vs2 rs1 vm) number = Some (record { vd = vd; vs2 = vs2; other = Number number; vm = vm })
pair_of (v.ArithmeticVi o vd vs2 imm vm) number = Some (record { vd = vd; vs2 = vs2; other = Immediate imm; vm = vm })
pair_of (v.ShiftVi o vd vs2 amount vm) number = Some (record { vd = vd; vs2 = vs2; other = Amount amount; vm = vm })
pair_of (v.CompareVv o vd vs2 vs1 vm) number = Some (record { vd = vd; vs2 = vs2; other = Register vs1; vm = vm })
pair_of (v.CompareVx o vd vs2 rs1 vm) number = Some (record { vd = vd; vs2 = vs2; other = Number number; vm = vm })
pair_of (v.CompareVi o vd vs2 imm vm) number = Some (record { vd = vd; vs2 = vs2; other = Immediate imm; vm = vm })
pair_of (v.MultiplyVv o vd vs2 vs1 vm) number = Some (record { vd = vd; vs2 = vs2; other = Register vs1; vm = vm })
pair_of (v.MultiplyVx o vd vs2 rs1 vm) number = Some (record { vd = vd; vs2 = vs2; other = Number number; vm = vm })
pair_of insn number = None
