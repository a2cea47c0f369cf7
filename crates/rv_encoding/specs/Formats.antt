-- Each instruction's row of the table, by cases, and what it is for a word to fit a row with given fields.
-- A reader need not believe this file: the public clauses speak of rv_insn's `Means` alone, and `Means` is proved to be `StandsFor`.
use Rattle.std.specs.Prelude.{◌≡◌, ℕ, ℤ, Bool, Option, Some, None, List, [], ◌∷◌, map}
use Rattle.rv_insn.specs.Encoding.{Holds, Row, field_of}
use Rattle.rv_insn.specs.Table.{u_type, j_type, b_type, i_type, s_type, r_type, amo_type, whole_word, fields_of}
use Rattle.rv_insn.specs.declared.instructions.Insn.{Insn}
use Rattle.rv_insn.specs.declared.instructions.Insn.TheVariants.{Lui, Auipc, Jal, Jalr, Branch, Load, Store, AluImm, Shift, Alu, AmoaddW, Fence, Ecall, Ebreak}
use Rattle.rv_insn.specs.declared.instructions.Insn.TheVariants.{Vector}
use Rattle.rv_insn.specs.declared.vector_instructions.VectorInsn.{VectorInsn}
use Rattle.rv_insn.specs.declared.vector_instructions.VectorInsn.TheVariants as v
use Rattle.rv_insn.specs.declared.vector_instructions.Addressing.{Addressing}
use Rattle.rv_insn.specs.declared.vector_instructions.Addressing.TheVariants as addressings
use Rattle.rv_insn.specs.declared.vector_operations.ElementWidth.{ElementWidth}
use Rattle.rv_insn.specs.VectorTable as fields
use Rattle.rv_insn.specs.VectorTable.{v_row, opivv_type, opmvv_type, opivi_type, opivi_shift_type, opivx_type, opmvx_type, merge_vv_type, merge_vi_type}
use Rattle.rv_insn.specs.VectorTable.{merge_vx_type, move_vv_type, move_vi_type, move_vx_type, to_scalar_type, from_scalar_type, numbers_type, extend_type}
use Rattle.rv_insn.specs.VectorTable.{vsetvli_type, vsetivli_type, vsetvl_type, unit_type, strided_type, indexed_type}
use Rattle.operation_keys.specs.Operations.{arithmetic_vv_funct6, arithmetic_vx_funct6, arithmetic_vi_funct6, shift_vi_funct6, compare_vv_funct6}
use Rattle.operation_keys.specs.Operations.{compare_vx_funct6, compare_vi_funct6, multiply_funct6, reduction_funct6, width_funct3, branch_funct3, load_funct3}
use Rattle.operation_keys.specs.Operations.{store_funct3, alu_imm_funct3, shift_funct3, shift_funct7, alu_funct3, alu_funct7}

-- the row's fixed bits hold in the word, and these are the numbers at its fields' places
unfoldable pub Stands : ℕ → Row → List ℤ → Type 0
Stands word row fields = Holds word row.pairs × (fields ≡ map (field_of word) row.fields)

-- the row of a vector load or store, by its opcode
abbrev pub access_shape : ℕ → ElementWidth → Addressing → Row
access_shape opcode width addressings.UnitStride = unit_type [] opcode (width_funct3 width)
access_shape opcode width (addressings.Strided rs2) = strided_type [] opcode (width_funct3 width)
access_shape opcode width (addressings.Indexed vs2) = indexed_type [] opcode (width_funct3 width)

-- the same of a vector instruction
abbrev pub vector_shape_of : VectorInsn → Row
vector_shape_of (v.ArithmeticVv op vd vs2 vs1 vm) = opivv_type [] (arithmetic_vv_funct6 op)
vector_shape_of (v.ArithmeticVx op vd vs2 rs1 vm) = opivx_type [] (arithmetic_vx_funct6 op)
vector_shape_of (v.ArithmeticVi op vd vs2 imm vm) = opivi_type [] (arithmetic_vi_funct6 op)
vector_shape_of (v.ShiftVi op vd vs2 amount vm) = opivi_shift_type [] (shift_vi_funct6 op)
vector_shape_of (v.CompareVv op vd vs2 vs1 vm) = opivv_type [] (compare_vv_funct6 op)
vector_shape_of (v.CompareVx op vd vs2 rs1 vm) = opivx_type [] (compare_vx_funct6 op)
vector_shape_of (v.CompareVi op vd vs2 imm vm) = opivi_type [] (compare_vi_funct6 op)
vector_shape_of (v.MultiplyVv op vd vs2 vs1 vm) = opmvv_type [] (multiply_funct6 op)
vector_shape_of (v.MultiplyVx op vd vs2 rs1 vm) = opmvx_type [] (multiply_funct6 op)
vector_shape_of (v.Reduce op vd vs2 vs1 vm) = opmvv_type [] (reduction_funct6 op)
vector_shape_of (v.MergeVv vd vs2 vs1) = merge_vv_type []
vector_shape_of (v.MergeVx vd vs2 rs1) = merge_vx_type []
vector_shape_of (v.MergeVi vd vs2 imm) = merge_vi_type []
vector_shape_of (v.MoveVv vd vs1) = move_vv_type []
vector_shape_of (v.MoveVx vd rs1) = move_vx_type []
vector_shape_of (v.MoveVi vd imm) = move_vi_type []
vector_shape_of (v.MoveToScalar rd vs2) = to_scalar_type []
vector_shape_of (v.MoveFromScalar vd rs1) = from_scalar_type []
vector_shape_of (v.ElementNumbers vd vm) = numbers_type []
vector_shape_of (v.ExtendBytes vd vs2 vm) = extend_type []
vector_shape_of (v.Vsetvli rd rs1 vtype) = vsetvli_type []
vector_shape_of (v.Vsetivli rd length vtype) = vsetivli_type []
vector_shape_of (v.Vsetvl rd rs1 rs2) = vsetvl_type []
vector_shape_of (v.LoadElements width vd rs1 addressing vm) = access_shape 0b0000111 width addressing
vector_shape_of (v.StoreElements width vs3 rs1 addressing vm) = access_shape 0b0100111 width addressing

-- vd, vs2 and vm of an operation on elements under a mask, whose word has a third operand beside them
abbrev pub operands_in : VectorInsn → Option (ℕ × ℕ × Bool)
operands_in (v.ArithmeticVv op vd vs2 vs1 vm) = Some (vd, vs2, vm)
operands_in (v.ArithmeticVx op vd vs2 rs1 vm) = Some (vd, vs2, vm)
operands_in (v.ArithmeticVi op vd vs2 imm vm) = Some (vd, vs2, vm)
operands_in (v.ShiftVi op vd vs2 amount vm) = Some (vd, vs2, vm)
operands_in (v.CompareVv op vd vs2 vs1 vm) = Some (vd, vs2, vm)
operands_in (v.CompareVx op vd vs2 rs1 vm) = Some (vd, vs2, vm)
operands_in (v.CompareVi op vd vs2 imm vm) = Some (vd, vs2, vm)
operands_in (v.MultiplyVv op vd vs2 vs1 vm) = Some (vd, vs2, vm)
operands_in (v.MultiplyVx op vd vs2 rs1 vm) = Some (vd, vs2, vm)
operands_in (v.Reduce op vd vs2 vs1 vm) = Some (vd, vs2, vm)
operands_in other = None

-- the row of operations on three registers, by funct3 and funct6
abbrev pub registers_shape : ℕ → ℕ → Row
registers_shape funct3 funct6 = v_row [] ((0, 7, 0b1010111) ∷ (12, 3, funct3) ∷ (26, 6, funct6) ∷ []) (fields.vd ∷ fields.vs2 ∷ fields.vs1 ∷ fields.vm ∷ [])

-- the rows of merges and of moves to a whole register, from a register
abbrev pub merge_shape : ℕ → Row
merge_shape funct3 = v_row [] ((0, 7, 0b1010111) ∷ (12, 3, funct3) ∷ (26, 6, 0b010111) ∷ (25, 1, 0) ∷ []) (fields.vd ∷ fields.vs2 ∷ fields.vs1 ∷ [])

abbrev pub move_shape : ℕ → Row
move_shape funct3 = v_row [] ((0, 7, 0b1010111) ∷ (12, 3, funct3) ∷ (26, 6, 0b010111) ∷ (25, 1, 1) ∷ (20, 5, 0) ∷ []) (fields.vd ∷ fields.vs1 ∷ [])

-- the rows of loads and stores with an offset in a register
abbrev pub offset_shape : ℕ → ℕ → ℕ → Row
offset_shape opcode width mode = v_row [] ((0, 7, opcode) ∷ (12, 3, width) ∷ (28, 4, 0b0000) ∷ (26, 2, mode) ∷ []) (fields.vd ∷ fields.vs1 ∷ fields.vs2
    ∷ fields.vm ∷ [])

-- an instruction's row but for the name, which plays no part in which words fit
abbrev pub shape_of : Insn → Row
shape_of (Lui rd imm) = u_type [] 0b0110111
shape_of (Auipc rd imm) = u_type [] 0b0010111
shape_of (Jal rd offset) = j_type [] 0b1101111
shape_of (Jalr rd rs1 imm) = i_type [] 0b1100111 0b000
shape_of (Branch op rs1 rs2 offset) = b_type [] 0b1100011 (branch_funct3 op)
shape_of (Load op rd rs1 imm) = i_type [] 0b0000011 (load_funct3 op)
shape_of (Store op rs1 rs2 imm) = s_type [] 0b0100011 (store_funct3 op)
shape_of (AluImm op rd rs1 imm) = i_type [] 0b0010011 (alu_imm_funct3 op)
shape_of (Shift op rd rs1 amount) = r_type [] 0b0010011 (shift_funct3 op) (shift_funct7 op)
shape_of (Alu op rd rs1 rs2) = r_type [] 0b0110011 (alu_funct3 op) (alu_funct7 op)
shape_of (AmoaddW rd rs1 rs2 aq rl) = amo_type [] 0b0101111 0b010 0b00000
shape_of Fence = whole_word [] 0x0FF0000F
shape_of Ecall = whole_word [] 0x00000073
shape_of Ebreak = whole_word [] 0x00100073
shape_of (Vector insn) = vector_shape_of insn

-- the word fits the instruction's row with the instruction's fields
abbrev pub StandsFor : ℕ → Insn → Type 0
StandsFor word insn = Stands word (shape_of insn) (fields_of insn)
