-- What turns take of a word: its instruction, with the operation of a group as a variant of its own. This project's own.
use Rattle.std.specs.Prelude.{ℕ, ℤ, Option, Some, None}
use Rattle.rv_encoding.specs.Decoding.{decoded}
use Rattle.rv_insn.specs.declared.instructions.Insn.{Insn}
use Rattle.rv_insn.specs.declared.instructions.Insn.TheVariants as insns
use Rattle.rv_insn.specs.declared.operations.BranchOp.{BranchOp}
use Rattle.rv_insn.specs.declared.operations.BranchOp.TheVariants as branches
use Rattle.rv_insn.specs.declared.operations.LoadOp.{LoadOp}
use Rattle.rv_insn.specs.declared.operations.LoadOp.TheVariants as loads
use Rattle.rv_insn.specs.declared.operations.StoreOp.{StoreOp}
use Rattle.rv_insn.specs.declared.operations.StoreOp.TheVariants as stores
use Rattle.rv_insn.specs.declared.operations.AluImmOp.{AluImmOp}
use Rattle.rv_insn.specs.declared.operations.AluImmOp.TheVariants as alu_imms
use Rattle.rv_insn.specs.declared.operations.ShiftOp.{ShiftOp}
use Rattle.rv_insn.specs.declared.operations.ShiftOp.TheVariants as shifts
use Rattle.rv_insn.specs.declared.operations.AluOp.{AluOp}
use Rattle.rv_insn.specs.declared.operations.AluOp.TheVariants as alus
use Rattle.hart_core.specs.declared.meanings.Meaning.{Meaning}
use Rattle.hart_core.specs.declared.meanings.Meaning.TheVariants as m

-- the instruction that a meaning is, or none
abbrev pub insn_of : Meaning → Option Insn
insn_of m.Nothing = None
insn_of (m.Lui rd imm) = Some (insns.Lui rd imm)
insn_of (m.Auipc rd imm) = Some (insns.Auipc rd imm)
insn_of (m.Jal rd offset) = Some (insns.Jal rd offset)
insn_of (m.Jalr rd rs1 imm) = Some (insns.Jalr rd rs1 imm)
insn_of (m.Beq rs1 rs2 offset) = Some (insns.Branch branches.Beq rs1 rs2 offset)
insn_of (m.Bne rs1 rs2 offset) = Some (insns.Branch branches.Bne rs1 rs2 offset)
insn_of (m.Blt rs1 rs2 offset) = Some (insns.Branch branches.Blt rs1 rs2 offset)
insn_of (m.Bge rs1 rs2 offset) = Some (insns.Branch branches.Bge rs1 rs2 offset)
insn_of (m.Bltu rs1 rs2 offset) = Some (insns.Branch branches.Bltu rs1 rs2 offset)
insn_of (m.Bgeu rs1 rs2 offset) = Some (insns.Branch branches.Bgeu rs1 rs2 offset)
insn_of (m.Lb rd rs1 imm) = Some (insns.Load loads.Lb rd rs1 imm)
insn_of (m.Lh rd rs1 imm) = Some (insns.Load loads.Lh rd rs1 imm)
insn_of (m.Lw rd rs1 imm) = Some (insns.Load loads.Lw rd rs1 imm)
insn_of (m.Lbu rd rs1 imm) = Some (insns.Load loads.Lbu rd rs1 imm)
insn_of (m.Lhu rd rs1 imm) = Some (insns.Load loads.Lhu rd rs1 imm)
insn_of (m.Sb rs1 rs2 imm) = Some (insns.Store stores.Sb rs1 rs2 imm)
insn_of (m.Sh rs1 rs2 imm) = Some (insns.Store stores.Sh rs1 rs2 imm)
insn_of (m.Sw rs1 rs2 imm) = Some (insns.Store stores.Sw rs1 rs2 imm)
insn_of (m.Addi rd rs1 imm) = Some (insns.AluImm alu_imms.Addi rd rs1 imm)
insn_of (m.Slti rd rs1 imm) = Some (insns.AluImm alu_imms.Slti rd rs1 imm)
insn_of (m.Sltiu rd rs1 imm) = Some (insns.AluImm alu_imms.Sltiu rd rs1 imm)
insn_of (m.Xori rd rs1 imm) = Some (insns.AluImm alu_imms.Xori rd rs1 imm)
insn_of (m.Ori rd rs1 imm) = Some (insns.AluImm alu_imms.Ori rd rs1 imm)
insn_of (m.Andi rd rs1 imm) = Some (insns.AluImm alu_imms.Andi rd rs1 imm)
insn_of (m.Slli rd rs1 amount) = Some (insns.Shift shifts.Slli rd rs1 amount)
insn_of (m.Srli rd rs1 amount) = Some (insns.Shift shifts.Srli rd rs1 amount)
insn_of (m.Srai rd rs1 amount) = Some (insns.Shift shifts.Srai rd rs1 amount)
insn_of (m.Add rd rs1 rs2) = Some (insns.Alu alus.Add rd rs1 rs2)
insn_of (m.Sub rd rs1 rs2) = Some (insns.Alu alus.Sub rd rs1 rs2)
insn_of (m.Sll rd rs1 rs2) = Some (insns.Alu alus.Sll rd rs1 rs2)
insn_of (m.Slt rd rs1 rs2) = Some (insns.Alu alus.Slt rd rs1 rs2)
insn_of (m.Sltu rd rs1 rs2) = Some (insns.Alu alus.Sltu rd rs1 rs2)
insn_of (m.Xor rd rs1 rs2) = Some (insns.Alu alus.Xor rd rs1 rs2)
insn_of (m.Srl rd rs1 rs2) = Some (insns.Alu alus.Srl rd rs1 rs2)
insn_of (m.Sra rd rs1 rs2) = Some (insns.Alu alus.Sra rd rs1 rs2)
insn_of (m.Or rd rs1 rs2) = Some (insns.Alu alus.Or rd rs1 rs2)
insn_of (m.And rd rs1 rs2) = Some (insns.Alu alus.And rd rs1 rs2)
insn_of (m.Mul rd rs1 rs2) = Some (insns.Alu alus.Mul rd rs1 rs2)
insn_of (m.Mulh rd rs1 rs2) = Some (insns.Alu alus.Mulh rd rs1 rs2)
insn_of (m.Mulhsu rd rs1 rs2) = Some (insns.Alu alus.Mulhsu rd rs1 rs2)
insn_of (m.Mulhu rd rs1 rs2) = Some (insns.Alu alus.Mulhu rd rs1 rs2)
insn_of (m.Div rd rs1 rs2) = Some (insns.Alu alus.Div rd rs1 rs2)
insn_of (m.Divu rd rs1 rs2) = Some (insns.Alu alus.Divu rd rs1 rs2)
insn_of (m.Rem rd rs1 rs2) = Some (insns.Alu alus.Rem rd rs1 rs2)
insn_of (m.Remu rd rs1 rs2) = Some (insns.Alu alus.Remu rd rs1 rs2)
insn_of (m.AmoaddW rd rs1 rs2 aq rl) = Some (insns.AmoaddW rd rs1 rs2 aq rl)
insn_of m.Fence = Some insns.Fence
insn_of m.Ecall = Some insns.Ecall
insn_of m.Ebreak = Some insns.Ebreak
insn_of (m.Vector insn) = Some (insns.Vector insn)

-- ---- and back

abbrev pub branch_of : BranchOp → ℕ → ℕ → ℤ → Meaning
branch_of branches.Beq rs1 rs2 offset = m.Beq rs1 rs2 offset
branch_of branches.Bne rs1 rs2 offset = m.Bne rs1 rs2 offset
branch_of branches.Blt rs1 rs2 offset = m.Blt rs1 rs2 offset
branch_of branches.Bge rs1 rs2 offset = m.Bge rs1 rs2 offset
branch_of branches.Bltu rs1 rs2 offset = m.Bltu rs1 rs2 offset
branch_of branches.Bgeu rs1 rs2 offset = m.Bgeu rs1 rs2 offset

abbrev pub load_of : LoadOp → ℕ → ℕ → ℤ → Meaning
load_of loads.Lb rd rs1 imm = m.Lb rd rs1 imm
load_of loads.Lh rd rs1 imm = m.Lh rd rs1 imm
load_of loads.Lw rd rs1 imm = m.Lw rd rs1 imm
load_of loads.Lbu rd rs1 imm = m.Lbu rd rs1 imm
load_of loads.Lhu rd rs1 imm = m.Lhu rd rs1 imm

abbrev pub store_of : StoreOp → ℕ → ℕ → ℤ → Meaning
store_of stores.Sb rs1 rs2 imm = m.Sb rs1 rs2 imm
store_of stores.Sh rs1 rs2 imm = m.Sh rs1 rs2 imm
store_of stores.Sw rs1 rs2 imm = m.Sw rs1 rs2 imm

abbrev pub immediate_of : AluImmOp → ℕ → ℕ → ℤ → Meaning
immediate_of alu_imms.Addi rd rs1 imm = m.Addi rd rs1 imm
immediate_of alu_imms.Slti rd rs1 imm = m.Slti rd rs1 imm
immediate_of alu_imms.Sltiu rd rs1 imm = m.Sltiu rd rs1 imm
immediate_of alu_imms.Xori rd rs1 imm = m.Xori rd rs1 imm
immediate_of alu_imms.Ori rd rs1 imm = m.Ori rd rs1 imm
immediate_of alu_imms.Andi rd rs1 imm = m.Andi rd rs1 imm

abbrev pub shift_of : ShiftOp → ℕ → ℕ → ℕ → Meaning
shift_of shifts.Slli rd rs1 amount = m.Slli rd rs1 amount
shift_of shifts.Srli rd rs1 amount = m.Srli rd rs1 amount
shift_of shifts.Srai rd rs1 amount = m.Srai rd rs1 amount

abbrev pub operation_of : AluOp → ℕ → ℕ → ℕ → Meaning
operation_of alus.Add rd rs1 rs2 = m.Add rd rs1 rs2
operation_of alus.Sub rd rs1 rs2 = m.Sub rd rs1 rs2
operation_of alus.Sll rd rs1 rs2 = m.Sll rd rs1 rs2
operation_of alus.Slt rd rs1 rs2 = m.Slt rd rs1 rs2
operation_of alus.Sltu rd rs1 rs2 = m.Sltu rd rs1 rs2
operation_of alus.Xor rd rs1 rs2 = m.Xor rd rs1 rs2
operation_of alus.Srl rd rs1 rs2 = m.Srl rd rs1 rs2
operation_of alus.Sra rd rs1 rs2 = m.Sra rd rs1 rs2
operation_of alus.Or rd rs1 rs2 = m.Or rd rs1 rs2
operation_of alus.And rd rs1 rs2 = m.And rd rs1 rs2
operation_of alus.Mul rd rs1 rs2 = m.Mul rd rs1 rs2
operation_of alus.Mulh rd rs1 rs2 = m.Mulh rd rs1 rs2
operation_of alus.Mulhsu rd rs1 rs2 = m.Mulhsu rd rs1 rs2
operation_of alus.Mulhu rd rs1 rs2 = m.Mulhu rd rs1 rs2
operation_of alus.Div rd rs1 rs2 = m.Div rd rs1 rs2
operation_of alus.Divu rd rs1 rs2 = m.Divu rd rs1 rs2
operation_of alus.Rem rd rs1 rs2 = m.Rem rd rs1 rs2
operation_of alus.Remu rd rs1 rs2 = m.Remu rd rs1 rs2

-- the meaning that an instruction is, or none
abbrev pub meaning_of : Option Insn → Meaning
meaning_of None = m.Nothing
meaning_of (Some (insns.Lui rd imm)) = m.Lui rd imm
meaning_of (Some (insns.Auipc rd imm)) = m.Auipc rd imm
meaning_of (Some (insns.Jal rd offset)) = m.Jal rd offset
meaning_of (Some (insns.Jalr rd rs1 imm)) = m.Jalr rd rs1 imm
meaning_of (Some (insns.Branch op rs1 rs2 offset)) = branch_of op rs1 rs2 offset
meaning_of (Some (insns.Load op rd rs1 imm)) = load_of op rd rs1 imm
meaning_of (Some (insns.Store op rs1 rs2 imm)) = store_of op rs1 rs2 imm
meaning_of (Some (insns.AluImm op rd rs1 imm)) = immediate_of op rd rs1 imm
meaning_of (Some (insns.Shift op rd rs1 amount)) = shift_of op rd rs1 amount
meaning_of (Some (insns.Alu op rd rs1 rs2)) = operation_of op rd rs1 rs2
meaning_of (Some (insns.AmoaddW rd rs1 rs2 aq rl)) = m.AmoaddW rd rs1 rs2 aq rl
meaning_of (Some insns.Fence) = m.Fence
meaning_of (Some insns.Ecall) = m.Ecall
meaning_of (Some insns.Ebreak) = m.Ebreak
meaning_of (Some (insns.Vector insn)) = m.Vector insn

-- what a word means
abbrev pub word_meaning : ℕ → Meaning
word_meaning word = meaning_of (decoded word)
