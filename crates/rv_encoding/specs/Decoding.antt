-- The instruction that a word means, computed from the fields of the word.
-- A reader need not believe this file: the public law `decoded_is_meant` says that `decoded` is rv_insn's `Means`.
use Rattle.std.specs.Prelude.{ℕ, ◌+◌, ◌*◌, ◌/◌, ◌%◌, ◌^◌, ℤ, Bool, Option, Some, None, ◌==◌, if◌then◌else◌}
use Rattle.rv_insn.specs.Encoding.{signed}
use Rattle.rv_insn.specs.declared.instructions.Insn.{Insn}
use Rattle.rv_insn.specs.declared.instructions.Insn.TheVariants.{Lui, Auipc, Jal, Jalr, Branch, Load, Store, AluImm, Shift, Alu, AmoaddW, Fence, Ecall, Ebreak}
use Rattle.rv_insn.specs.declared.instructions.Insn.TheVariants.{Vector}
use Rattle.rv_insn.specs.declared.vector_instructions.VectorInsn.{VectorInsn}
use Rattle.rv_insn.specs.declared.vector_instructions.VectorInsn.TheVariants as v
use Rattle.rv_insn.specs.declared.vector_instructions.Addressing.{Addressing}
use Rattle.rv_insn.specs.declared.vector_instructions.Addressing.TheVariants as addressings
use Rattle.rv_insn.specs.declared.vector_operations.ElementWidth.{ElementWidth}
use Rattle.operation_keys.specs.Operations.{arithmetic_vv_of, arithmetic_vx_of, arithmetic_vi_of, shift_vi_of, compare_vv_of, compare_vx_of, compare_vi_of}
use Rattle.operation_keys.specs.Operations.{multiply_of, reduction_of, width_of, branch_of, load_of, store_of, alu_imm_of, shift_of, alu_of}
use Rattle.rv_insn.specs.declared.operations.AluImmOp.{AluImmOp}

-- the number in this many bits of the word, from the bit `low` up
abbrev pub part : ℕ → ℕ → ℕ → ℕ
part word low count = word / 2 ^ low % 2 ^ count

-- ---- operands, where the formats have them

unfoldable pub rd_of : ℕ → ℕ
rd_of word = part word 7 5

unfoldable pub rs1_of : ℕ → ℕ
rs1_of word = part word 15 5

unfoldable pub rs2_of : ℕ → ℕ
rs2_of word = part word 20 5

unfoldable pub i_immediate_of : ℕ → ℤ
i_immediate_of word = signed 12 (part word 20 12)

unfoldable pub s_immediate_of : ℕ → ℤ
s_immediate_of word = signed 12 (part word 7 5 + 2 ^ 5 * part word 25 7)

unfoldable pub b_offset_of : ℕ → ℤ
b_offset_of word = signed 12 (part word 8 4 + 2 ^ 4 * (part word 25 6 + 2 ^ 6 * (part word 7 1 + 2 * part word 31 1)))

unfoldable pub u_immediate_of : ℕ → ℕ
u_immediate_of word = part word 12 20

unfoldable pub j_offset_of : ℕ → ℤ
j_offset_of word = signed 20 (part word 21 10 + 2 ^ 10 * (part word 20 1 + 2 * (part word 12 8 + 2 ^ 8 * part word 31 1)))

-- ---- and those of vector instructions

unfoldable pub vector_immediate_of : ℕ → ℤ
vector_immediate_of word = signed 5 (part word 15 5)

unfoldable pub vtype10_of : ℕ → ℕ
vtype10_of word = part word 20 10

unfoldable pub vtype11_of : ℕ → ℕ
vtype11_of word = part word 20 11

abbrev pub flag_of : ℕ → ℕ → Bool
flag_of word place = part word place 1 == 1

-- ---- each group, from funct3, funct7 and the word

-- the instruction with an operation, where there is one
abbrev pub with_op : {Op : Type 0} → (Op → Insn) → Option Op → Option Insn
with_op make None = None
with_op make (Some op) = Some (make op)

abbrev pub branch_in : ℕ → ℕ → Option Insn
branch_in funct3 word = with_op (λ op. Branch op (rs1_of word) (rs2_of word) (b_offset_of word)) (branch_of funct3)

abbrev pub load_in : ℕ → ℕ → Option Insn
load_in funct3 word = with_op (λ op. Load op (rd_of word) (rs1_of word) (i_immediate_of word)) (load_of funct3)

abbrev pub store_in : ℕ → ℕ → Option Insn
store_in funct3 word = with_op (λ op. Store op (rs1_of word) (rs2_of word) (s_immediate_of word)) (store_of funct3)

abbrev pub jalr_in : ℕ → ℕ → Option Insn
jalr_in funct3 word = if funct3 == 0b000 then Some (Jalr (rd_of word) (rs1_of word) (i_immediate_of word)) else None

abbrev pub shift_in : ℕ → ℕ → ℕ → Option Insn
shift_in funct3 funct7 word = with_op (λ op. Shift op (rd_of word) (rs1_of word) (rs2_of word)) (shift_of funct3 funct7)

-- the operation with an immediate that funct3 tells, else a shift
abbrev pub op_imm_from : Option AluImmOp → ℕ → ℕ → ℕ → Option Insn
op_imm_from (Some op) funct3 funct7 word = Some (AluImm op (rd_of word) (rs1_of word) (i_immediate_of word))
op_imm_from None funct3 funct7 word = shift_in funct3 funct7 word

abbrev pub op_imm_in : ℕ → ℕ → ℕ → Option Insn
op_imm_in funct3 funct7 word = op_imm_from (alu_imm_of funct3) funct3 funct7 word

abbrev pub alu_in : ℕ → ℕ → ℕ → Option Insn
alu_in funct3 funct7 word = with_op (λ op. Alu op (rd_of word) (rs1_of word) (rs2_of word)) (alu_of funct3 funct7)

abbrev pub amo_in : ℕ → ℕ → Option Insn
amo_in funct3 word =
    if funct3 == 0b010
    then (if part word 27 5 == 0b00000 then Some (AmoaddW (rd_of word) (rs1_of word) (rs2_of word) (flag_of word 26) (flag_of word 25)) else None)
    else None

abbrev pub misc_mem_in : ℕ → Option Insn
misc_mem_in word = if word == 0x0FF0000F then Some Fence else None

abbrev pub system_in : ℕ → Option Insn
system_in word = if word == 0x00000073 then Some Ecall else (if word == 0x00100073 then Some Ebreak else None)

-- ---- vector instructions, from funct6 and the fields that some rows fix

-- the mask bit: 1 for all elements
abbrev pub vm_of : ℕ → Bool
vm_of word = flag_of word 25

-- the instruction with an operation, where there is one, or what comes else
abbrev pub op_or : {Op : Type 0} → (Op → Insn) → Option Op → Option Insn → Option Insn
op_or make None other = other
op_or make (Some op) other = Some (make op)

-- with the mask bit 0 a merge, else a move, which has no vs2
abbrev pub merge_in : ℕ → ℕ → VectorInsn → VectorInsn → Option Insn
merge_in vm vs2 merge move = if vm == 0 then Some (Vector merge) else (if vs2 == 0 then Some (Vector move) else None)

abbrev pub opivv_in : ℕ → ℕ → ℕ → ℕ → Option Insn
opivv_in funct6 vm vs2 word =
    if funct6 == 0b010111 then merge_in vm vs2 (v.MergeVv (rd_of word) (rs2_of word) (rs1_of word)) (v.MoveVv (rd_of word) (rs1_of word))
    else op_or (λ op. Vector (v.ArithmeticVv op (rd_of word) (rs2_of word) (rs1_of word) (vm_of word))) (arithmetic_vv_of funct6)
    (with_op (λ op. Vector (v.CompareVv op (rd_of word) (rs2_of word) (rs1_of word) (vm_of word))) (compare_vv_of funct6))

abbrev pub opivx_in : ℕ → ℕ → ℕ → ℕ → Option Insn
opivx_in funct6 vm vs2 word =
    if funct6 == 0b010111 then merge_in vm vs2 (v.MergeVx (rd_of word) (rs2_of word) (rs1_of word)) (v.MoveVx (rd_of word) (rs1_of word))
    else op_or (λ op. Vector (v.ArithmeticVx op (rd_of word) (rs2_of word) (rs1_of word) (vm_of word))) (arithmetic_vx_of funct6)
    (with_op (λ op. Vector (v.CompareVx op (rd_of word) (rs2_of word) (rs1_of word) (vm_of word))) (compare_vx_of funct6))

abbrev pub opivi_in : ℕ → ℕ → ℕ → ℕ → Option Insn
opivi_in funct6 vm vs2 word =
    if funct6 == 0b010111 then merge_in vm vs2 (v.MergeVi (rd_of word) (rs2_of word) (vector_immediate_of word))
    (v.MoveVi (rd_of word) (vector_immediate_of word))
    else op_or (λ op. Vector (v.ArithmeticVi op (rd_of word) (rs2_of word) (vector_immediate_of word) (vm_of word))) (arithmetic_vi_of funct6)
    (op_or (λ op. Vector (v.ShiftVi op (rd_of word) (rs2_of word) (rs1_of word) (vm_of word))) (shift_vi_of funct6)
    (with_op (λ op. Vector (v.CompareVi op (rd_of word) (rs2_of word) (vector_immediate_of word) (vm_of word))) (compare_vi_of funct6)))

abbrev pub to_scalar_in : ℕ → ℕ → ℕ → Option Insn
to_scalar_in vm vs1 word = if vm == 1 then (if vs1 == 0 then Some (Vector (v.MoveToScalar (rd_of word) (rs2_of word))) else None) else None

abbrev pub from_scalar_in : ℕ → ℕ → ℕ → Option Insn
from_scalar_in vm vs2 word = if vm == 1 then (if vs2 == 0 then Some (Vector (v.MoveFromScalar (rd_of word) (rs1_of word))) else None) else None

abbrev pub numbers_in : ℕ → ℕ → ℕ → Option Insn
numbers_in vs1 vs2 word = if vs1 == 0b10001 then (if vs2 == 0 then Some (Vector (v.ElementNumbers (rd_of word) (vm_of word))) else None) else None

abbrev pub extended_in : ℕ → ℕ → Option Insn
extended_in vs1 word = if vs1 == 0b00100 then Some (Vector (v.ExtendBytes (rd_of word) (rs2_of word) (vm_of word))) else None

abbrev pub opmvv_in : ℕ → ℕ → ℕ → ℕ → ℕ → Option Insn
opmvv_in funct6 vm vs1 vs2 word =
    if funct6 == 0b010000 then to_scalar_in vm vs1 word
    else (if funct6 == 0b010100 then numbers_in vs1 vs2 word
    else (if funct6 == 0b010010 then extended_in vs1 word
    else op_or (λ op. Vector (v.Reduce op (rd_of word) (rs2_of word) (rs1_of word) (vm_of word))) (reduction_of funct6)
    (with_op (λ op. Vector (v.MultiplyVv op (rd_of word) (rs2_of word) (rs1_of word) (vm_of word))) (multiply_of funct6))))

abbrev pub opmvx_in : ℕ → ℕ → ℕ → ℕ → Option Insn
opmvx_in funct6 vm vs2 word =
    if funct6 == 0b010000 then from_scalar_in vm vs2 word
    else with_op (λ op. Vector (v.MultiplyVx op (rd_of word) (rs2_of word) (rs1_of word) (vm_of word))) (multiply_of funct6)

-- configuration, from bit 31, bits 31 to 30 and bits 31 to 25
abbrev pub config_in : ℕ → ℕ → ℕ → ℕ → Option Insn
config_in top two seven word =
    if top == 0 then Some (Vector (v.Vsetvli (rd_of word) (rs1_of word) (vtype11_of word)))
    else (if two == 0b11 then Some (Vector (v.Vsetivli (rd_of word) (rs1_of word) (vtype10_of word)))
    else (if seven == 0b1000000 then Some (Vector (v.Vsetvl (rd_of word) (rs1_of word) (rs2_of word))) else None))

abbrev pub vector_in : ℕ → ℕ → Option Insn
vector_in funct3 word =
    if funct3 == 0b000 then opivv_in (part word 26 6) (part word 25 1) (part word 20 5) word else
    if funct3 == 0b010 then opmvv_in (part word 26 6) (part word 25 1) (part word 15 5) (part word 20 5) word else
    if funct3 == 0b011 then opivi_in (part word 26 6) (part word 25 1) (part word 20 5) word else
    if funct3 == 0b100 then opivx_in (part word 26 6) (part word 25 1) (part word 20 5) word else
    if funct3 == 0b110 then opmvx_in (part word 26 6) (part word 25 1) (part word 20 5) word else
    if funct3 == 0b111 then config_in (part word 31 1) (part word 30 2) (part word 25 7) word else None

-- how a load or store is addressed, from the mode in bits 27 to 26 and from bits 24 to 20
abbrev pub addressing_in : ℕ → ℕ → ℕ → Option Addressing
addressing_in mode last word =
    if mode == 0b00 then (if last == 0 then Some addressings.UnitStride else None) else
    if mode == 0b10 then Some (addressings.Strided (rs2_of word)) else
    if mode == 0b01 then Some (addressings.Indexed (rs2_of word)) else None

-- a load or store, where there are a width and an addressing
abbrev pub with_both : (ElementWidth → Addressing → Insn) → Option ElementWidth → Option Addressing → Option Insn
with_both make None addressing = None
with_both make (Some width) None = None
with_both make (Some width) (Some addressing) = Some (make width addressing)

-- from the width, bits 31 to 28, the mode and bits 24 to 20
abbrev pub vector_load_in : ℕ → ℕ → ℕ → ℕ → ℕ → Option Insn
vector_load_in width high mode last word =
    if high == 0
    then with_both (λ width addressing. Vector (v.LoadElements width (rd_of word) (rs1_of word) addressing (vm_of word))) (width_of width)
    (addressing_in mode last word)
    else None

abbrev pub vector_store_in : ℕ → ℕ → ℕ → ℕ → ℕ → Option Insn
vector_store_in width high mode last word =
    if high == 0
    then with_both (λ width addressing. Vector (v.StoreElements width (rd_of word) (rs1_of word) addressing (vm_of word))) (width_of width)
    (addressing_in mode last word)
    else None

abbrev pub vector_by_opcode : ℕ → ℕ → ℕ → Option Insn
vector_by_opcode opcode funct3 word =
    if opcode == 0b1010111 then vector_in funct3 word else
    if opcode == 0b0000111 then vector_load_in funct3 (part word 28 4) (part word 26 2) (part word 20 5) word else
    if opcode == 0b0100111 then vector_store_in funct3 (part word 28 4) (part word 26 2) (part word 20 5) word else None

-- ---- the whole word

abbrev pub by_keys : ℕ → ℕ → ℕ → ℕ → Option Insn
by_keys opcode funct3 funct7 word =
    if opcode == 0b0110111 then Some (Lui (rd_of word) (u_immediate_of word)) else
    if opcode == 0b0010111 then Some (Auipc (rd_of word) (u_immediate_of word)) else
    if opcode == 0b1101111 then Some (Jal (rd_of word) (j_offset_of word)) else
    if opcode == 0b1100111 then jalr_in funct3 word else
    if opcode == 0b1100011 then branch_in funct3 word else
    if opcode == 0b0000011 then load_in funct3 word else
    if opcode == 0b0100011 then store_in funct3 word else
    if opcode == 0b0010011 then op_imm_in funct3 funct7 word else
    if opcode == 0b0110011 then alu_in funct3 funct7 word else
    if opcode == 0b0101111 then amo_in funct3 word else
    if opcode == 0b0001111 then misc_mem_in word else
    if opcode == 0b1110011 then system_in word else
    vector_by_opcode opcode funct3 word

unfoldable pub decoded : ℕ → Option Insn
decoded word = by_keys (part word 0 7) (part word 12 3) (part word 25 7) word
