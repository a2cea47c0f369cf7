-- The rows of the instruction table, those of vector instructions through VectorRows: one line an instruction. What an instruction
-- touches is known from its own hart's state alone; what it leaves, from that state and the numbers read.
-- RISC-V Unprivileged ISA 20191213: sections 2.4 "Integer Computational Instructions", 2.5 "Control Transfer
-- Instructions", 2.6 "Load and Store Instructions", 2.7 "Memory Ordering Instructions", 2.8 "Environment Call and
-- Breakpoints", chapter 7 "M", 8.4 "Atomic Memory Operations". That ECALL finishes the hart, that EBREAK is a
-- trap, and that FENCE, aq and rl change nothing, is this project's own.
use Rattle.std.specs.Prelude.{ℕ, ◌*◌, ◌/◌, ◌%◌, ◌^◌, ◌==◌, if◌then◌else◌, List, [], ◌∷◌, slice_index, Option, Some, None, ℤ, pos, ◌*ℤ◌, Bool}
use Rattle.lanes.specs.Words as word
use Rattle.rv_insn.specs.declared.outcomes.Trap.{Trap}
use Rattle.rv_insn.specs.declared.outcomes.Trap.TheVariants.{IllegalInstruction, MisalignedTarget, Breakpoint}
use Rattle.rv_insn.specs.declared.outcomes.Outcome.{Outcome}
use Rattle.rv_insn.specs.declared.outcomes.Outcome.TheVariants.{Stepped, Finished}
use Rattle.rv_insn.specs.declared.instructions.Insn.{Insn}
use Rattle.rv_insn.specs.declared.instructions.Insn.TheVariants.{Lui, Auipc, Jal, Jalr, Branch, Load, Store, AluImm, Shift, Alu, AmoaddW, Fence, Ecall, Ebreak}
use Rattle.rv_insn.specs.declared.instructions.Insn.TheVariants.{Vector}
use Rattle.rv_insn.specs.declared.operations.BranchOp.{BranchOp}
use Rattle.memory.specs.Access.{Size, Word, Kind, NoAccess, Reads, Writes, Updates, Access, access_at, Byte, Half}
use Rattle.hart_core.specs.declared.harts.Status.TheVariants.{Finished as HasFinished}
use Rattle.hart_core.specs.VectorRows.{vector_kind, vector_accesses, vector_after_turn}
use Rattle.hart_core.specs.HartState.{HartState, vectors_of, register, with_register, at_pc, next_pc, advanced, given, with_status}
use Rattle.vector_unit.specs.Accesses.{stored_numbers}
use Rattle.vector_unit.specs.Vector.{is_illegal}
use Rattle.rv_insn.specs.declared.operations.BranchOp.TheVariants as branches
use Rattle.rv_insn.specs.declared.operations.LoadOp.{LoadOp}
use Rattle.rv_insn.specs.declared.operations.LoadOp.TheVariants as loads
use Rattle.rv_insn.specs.declared.operations.StoreOp.{StoreOp}
use Rattle.rv_insn.specs.declared.operations.StoreOp.TheVariants as stores
use Rattle.rv_insn.specs.declared.operations.AluImmOp.{AluImmOp}
use Rattle.rv_insn.specs.declared.operations.AluImmOp.TheVariants as alu_imms
use Rattle.rv_insn.specs.declared.operations.ShiftOp.{ShiftOp}
use Rattle.rv_insn.specs.declared.operations.ShiftOp.TheVariants as shifts
use Rattle.rv_insn.specs.declared.operations.AluOp.{AluOp}
use Rattle.rv_insn.specs.declared.operations.AluOp.TheVariants as alus

-- ---- What the scalar instructions compute from the numbers of their registers, immediates and memory.
-- RISC-V Unprivileged ISA 20191213, sections 2.4 "Integer Computational Instructions", 2.5 "Control Transfer
-- Instructions", 2.6 "Load and Store Instructions", 7.1 "Multiplication Operations", 7.2 "Division Operations".
-- The operations on words are those of the crate lanes, at width 32.

-- the word of a signed number, as an immediate is extended
abbrev pub extended : ℤ → ℕ
extended z = word.wrapped 32 z

-- a register plus a signed number, modulo 2^32
abbrev pub plus : ℕ → ℤ → ℕ
plus n z = word.add 32 n (extended z)

-- what a comparison gives
abbrev pub one_if : Bool → ℕ
one_if test = if test then 1 else 0

-- ---- operations, on rs1 and either rs2 or the extended immediate

abbrev pub computed : AluOp → ℕ → ℕ → ℕ
computed alus.Add a b = word.add 32 a b
computed alus.Sub a b = word.sub 32 a b
computed alus.Sll a b = word.shift_left 32 a b
computed alus.Slt a b = one_if (word.less_signed 32 a b)
computed alus.Sltu a b = one_if (word.less_unsigned 32 a b)
computed alus.Xor a b = word.xor 32 a b
computed alus.Srl a b = word.shift_right_logical 32 a b
computed alus.Sra a b = word.shift_right_arithmetic 32 a b
computed alus.Or a b = word.or 32 a b
computed alus.And a b = word.and 32 a b
computed alus.Mul a b = word.multiply 32 a b
computed alus.Mulh a b = word.multiply_high_signed 32 a b
computed alus.Mulhsu a b = word.multiply_high_signed_unsigned 32 a b
computed alus.Mulhu a b = word.multiply_high_unsigned 32 a b
computed alus.Div a b = word.divide_signed 32 a b
computed alus.Divu a b = word.divide_unsigned 32 a b
computed alus.Rem a b = word.remainder_signed 32 a b
computed alus.Remu a b = word.remainder_unsigned 32 a b

abbrev pub computed_with_immediate : AluImmOp → ℕ → ℕ → ℕ
computed_with_immediate alu_imms.Addi a b = word.add 32 a b
computed_with_immediate alu_imms.Slti a b = one_if (word.less_signed 32 a b)
computed_with_immediate alu_imms.Sltiu a b = one_if (word.less_unsigned 32 a b)
computed_with_immediate alu_imms.Xori a b = word.xor 32 a b
computed_with_immediate alu_imms.Ori a b = word.or 32 a b
computed_with_immediate alu_imms.Andi a b = word.and 32 a b

abbrev pub shifted : ShiftOp → ℕ → ℕ → ℕ
shifted shifts.Slli a amount = word.shift_left 32 a amount
shifted shifts.Srli a amount = word.shift_right_logical 32 a amount
shifted shifts.Srai a amount = word.shift_right_arithmetic 32 a amount

-- ---- whether a branch is taken

abbrev pub is_taken : BranchOp → ℕ → ℕ → Bool
is_taken branches.Beq a b = word.equal 32 a b
is_taken branches.Bne a b = word.not_equal 32 a b
is_taken branches.Blt a b = word.less_signed 32 a b
is_taken branches.Bge a b = word.less_or_equal_signed 32 b a
is_taken branches.Bltu a b = word.less_unsigned 32 a b
is_taken branches.Bgeu a b = word.less_or_equal_unsigned 32 b a

-- ---- what a load gives of the number that it finds, and what a store keeps of a register

abbrev pub load_size : LoadOp → Size
load_size loads.Lb = Byte
load_size loads.Lh = Half
load_size loads.Lw = Word
load_size loads.Lbu = Byte
load_size loads.Lhu = Half

abbrev pub loaded : LoadOp → ℕ → ℕ
loaded loads.Lb n = extended (word.signed 8 n)
loaded loads.Lh n = extended (word.signed 16 n)
loaded loads.Lw n = n
loaded loads.Lbu n = n
loaded loads.Lhu n = n

abbrev pub store_size : StoreOp → Size
store_size stores.Sb = Byte
store_size stores.Sh = Half
store_size stores.Sw = Word

abbrev pub kept : StoreOp → ℕ → ℕ
kept stores.Sb n = n % 2 ^ 8
kept stores.Sh n = n % 2 ^ 16
kept stores.Sw n = n

-- ---- what scalar instructions touch, and where they lead

-- offsets are kept in half-words
abbrev pub offset_from : ℕ → ℤ → ℕ
offset_from pc halves = plus pc (pos 2 *ℤ halves)

-- the sum with its lowest bit cleared
abbrev pub even_sum : ℕ → ℤ → ℕ
even_sum n z = plus n z / 2 * 2

abbrev pub one_access : Size → ℕ → List Access
one_access size address = access_at size address ∷ []

abbrev pub kind_of : Insn → Kind
kind_of (Load op rd rs1 imm) = Reads
kind_of (Store op rs1 rs2 imm) = Writes
kind_of (AmoaddW rd rs1 rs2 aq rl) = Updates
kind_of (Vector insn) = vector_kind insn
kind_of insn = NoAccess

-- the numbers in memory that an instruction touches, in order
abbrev pub accesses : Insn → HartState → List Access
accesses (Load op rd rs1 imm) hart = one_access (load_size op) (plus (register hart rs1) imm)
accesses (Store op rs1 rs2 imm) hart = one_access (store_size op) (plus (register hart rs1) imm)
accesses (AmoaddW rd rs1 rs2 aq rl) hart = one_access Word (register hart rs1)
accesses (Vector insn) hart = vector_accesses insn hart
accesses insn hart = []

-- where an instruction goes on, if not at the next one: a branch that is not taken goes nowhere
abbrev pub jump_of : Insn → HartState → Option ℕ
jump_of (Jal rd offset) hart = Some (offset_from hart.pc offset)
jump_of (Jalr rd rs1 imm) hart = Some (even_sum (register hart rs1) imm)
jump_of (Branch op rs1 rs2 offset) hart =
    if is_taken op (register hart rs1) (register hart rs2) then Some (offset_from hart.pc offset) else None
jump_of insn hart = None

-- a target that is no multiple of 4 is a trap
abbrev pub jump_fault : Option ℕ → Option Trap
jump_fault None = None
jump_fault (Some target) = if target % 4 == 0 then None else Some MisalignedTarget

-- the trap of an instruction that is illegal in the hart's state
abbrev pub illegal_fault : Insn → HartState → Option Trap
illegal_fault (Vector insn) hart = if is_illegal insn (register hart) (vectors_of hart) then Some IllegalInstruction else None
illegal_fault insn hart = None

-- the trap that an instruction makes whatever the state
abbrev pub own_fault : Insn → Option Trap
own_fault Ebreak = Some Breakpoint
own_fault insn = None

abbrev pub jumped : HartState → Option ℕ → HartState
jumped hart None = advanced hart
jumped hart (Some target) = at_pc hart target

-- the address of the next instruction is written, and the target is due
abbrev pub linked : HartState → ℕ → ℕ → HartState
linked hart rd target = at_pc (with_register hart rd (next_pc hart)) target

-- The hart afterwards, from the numbers that were read: one for each access that reads. EBREAK, which traps,
-- leaves it as it is.
abbrev pub after : Insn → HartState → List ℕ → HartState
after (Lui rd imm) hart read = given hart rd (imm * 2 ^ 12)
after (Auipc rd imm) hart read = given hart rd (word.add 32 hart.pc (imm * 2 ^ 12))
after (Jal rd offset) hart read = linked hart rd (offset_from hart.pc offset)
after (Jalr rd rs1 imm) hart read = linked hart rd (even_sum (register hart rs1) imm)
after (Branch op rs1 rs2 offset) hart read = jumped hart (jump_of (Branch op rs1 rs2 offset) hart)
after (Load op rd rs1 imm) hart read = given hart rd (loaded op (slice_index read 0))
after (Store op rs1 rs2 imm) hart read = advanced hart
after (AluImm op rd rs1 imm) hart read = given hart rd (computed_with_immediate op (register hart rs1) (extended imm))
after (Shift op rd rs1 amount) hart read = given hart rd (shifted op (register hart rs1) amount)
after (Alu op rd rs1 rs2) hart read = given hart rd (computed op (register hart rs1) (register hart rs2))
after (AmoaddW rd rs1 rs2 aq rl) hart read = given hart rd (slice_index read 0)
after Fence hart read = advanced hart
after Ecall hart read = with_status hart HasFinished
after Ebreak hart read = hart
after (Vector insn) hart read = vector_after_turn insn hart read

-- the numbers that are written, one for each access that writes
abbrev pub stored : Insn → HartState → List ℕ → List ℕ
stored (Store op rs1 rs2 imm) hart read = kept op (register hart rs2) ∷ []
stored (AmoaddW rd rs1 rs2 aq rl) hart read = word.add 32 (slice_index read 0) (register hart rs2) ∷ []
stored (Vector insn) hart read = stored_numbers insn (vectors_of hart)
stored insn hart read = []

-- what a turn that makes no trap comes to; EBREAK makes one
abbrev pub outcome_of : Insn → Outcome
outcome_of Ecall = Finished
outcome_of insn = Stepped
