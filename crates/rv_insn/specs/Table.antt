-- The instruction table: one row for each instruction that the machine knows.
-- RISC-V Unprivileged ISA 20191213, chapter 24 "RV32/64G Instruction Set Listings"; the formats are
-- those of sections 2.2 and 2.3, multiplication and division are of chapter 7, the atomic addition is of section 8.4.
-- That no other word of FENCE than `fence iorw,iorw` (section 2.7) has a row is this project's own.
use Rattle.std.specs.Prelude.{ℕ, List, [], ◌∷◌, ◌++◌, codes, ◌≡◌, ℤ, pos, map}
use Rattle.std.specs.List.{Contains}
use Rattle.rv_insn.specs.Encoding.{span, fixed, Field, Row, Holds, field_of, bit_of}
use Rattle.rv_insn.specs.Encoding.Field.{Unsigned, Signed}
use Rattle.rv_insn.specs.VectorTable.{vector_table, vector_name_of, vector_fields_of}
use Rattle.rv_insn.specs.declared.instructions.Insn.{Insn}
use Rattle.rv_insn.specs.declared.instructions.Insn.TheVariants.{Lui, Auipc, Jal, Jalr, Branch, Load, Store, AluImm, Shift, Alu, AmoaddW, Fence, Ecall, Ebreak}
use Rattle.rv_insn.specs.declared.instructions.Insn.TheVariants.{Vector}
use Rattle.rv_insn.specs.declared.operations.BranchOp.{BranchOp}
use Rattle.rv_insn.specs.declared.operations.BranchOp.TheVariants as branches
use Rattle.rv_insn.specs.declared.operations.LoadOp.{LoadOp}
use Rattle.rv_insn.specs.declared.operations.LoadOp.TheVariants as loads
use Rattle.rv_insn.specs.declared.operations.StoreOp.{StoreOp}
use Rattle.rv_insn.specs.declared.operations.StoreOp.TheVariants as stores
use Rattle.rv_insn.specs.declared.operations.AluImmOp.{AluImmOp}
use Rattle.rv_insn.specs.declared.operations.AluImmOp.TheVariants as alu_imms
use Rattle.rv_insn.specs.declared.operations.ShiftOp.{ShiftOp}
use Rattle.rv_insn.specs.declared.operations.ShiftOp.TheVariants as shifts
use Rattle.rv_insn.specs.declared.operations.AluOp.{AluOp}
use Rattle.rv_insn.specs.declared.operations.AluOp.TheVariants as alus

-- ---- the fields of the formats, each by its positions from the lowest digit up

abbrev pub rd : Field
rd = Unsigned (span 7 5)

abbrev pub rs1 : Field
rs1 = Unsigned (span 15 5)

-- the amount of a shift in the word is here too: section 2.4
abbrev pub rs2 : Field
rs2 = Unsigned (span 20 5)

-- imm[11:0] in 31..20
abbrev pub i_places : List ℕ
i_places = span 20 12

-- imm[4:0] in 11..7, imm[11:5] in 31..25
abbrev pub s_places : List ℕ
s_places = span 7 5 ++ span 25 7

-- imm[4:1] in 11..8, imm[10:5] in 30..25, imm[11] in 7, imm[12] in 31: half-words, since imm[0] is no digit
abbrev pub b_places : List ℕ
b_places = span 8 4 ++ span 25 6 ++ span 7 1 ++ span 31 1

-- imm[31:12] in 31..12
abbrev pub u_places : List ℕ
u_places = span 12 20

-- imm[10:1] in 30..21, imm[11] in 20, imm[19:12] in 19..12, imm[20] in 31: half-words
abbrev pub j_places : List ℕ
j_places = span 21 10 ++ span 20 1 ++ span 12 8 ++ span 31 1

-- ---- the formats: opcode in 6..0, funct3 in 14..12, funct7 in 31..25

unfoldable pub r_type : List ℕ → ℕ → ℕ → ℕ → Row
r_type name opcode funct3 funct7 = record {
  name = name;
  pairs = fixed (span 0 7) opcode ++ fixed (span 12 3) funct3 ++ fixed (span 25 7) funct7;
  fields = rd ∷ rs1 ∷ rs2 ∷ [];
}

unfoldable pub i_type : List ℕ → ℕ → ℕ → Row
i_type name opcode funct3 = record {
  name = name;
  pairs = fixed (span 0 7) opcode ++ fixed (span 12 3) funct3;
  fields = rd ∷ rs1 ∷ Signed i_places ∷ [];
}

unfoldable pub s_type : List ℕ → ℕ → ℕ → Row
s_type name opcode funct3 = record {
  name = name;
  pairs = fixed (span 0 7) opcode ++ fixed (span 12 3) funct3;
  fields = rs1 ∷ rs2 ∷ Signed s_places ∷ [];
}

unfoldable pub b_type : List ℕ → ℕ → ℕ → Row
b_type name opcode funct3 = record {
  name = name;
  pairs = fixed (span 0 7) opcode ++ fixed (span 12 3) funct3;
  fields = rs1 ∷ rs2 ∷ Signed b_places ∷ [];
}

unfoldable pub u_type : List ℕ → ℕ → Row
u_type name opcode = record {
  name = name;
  pairs = fixed (span 0 7) opcode;
  fields = rd ∷ Unsigned u_places ∷ [];
}

unfoldable pub j_type : List ℕ → ℕ → Row
j_type name opcode = record {
  name = name;
  pairs = fixed (span 0 7) opcode;
  fields = rd ∷ Signed j_places ∷ [];
}

-- funct5 in 31..27, aq in 26, rl in 25
unfoldable pub amo_type : List ℕ → ℕ → ℕ → ℕ → Row
amo_type name opcode funct3 funct5 = record {
  name = name;
  pairs = fixed (span 0 7) opcode ++ fixed (span 12 3) funct3 ++ fixed (span 27 5) funct5;
  fields = rd ∷ rs1 ∷ rs2 ∷ Unsigned (span 26 1) ∷ Unsigned (span 25 1) ∷ [];
}

-- an instruction with no field: all 32 bits are fixed
unfoldable pub whole_word : List ℕ → ℕ → Row
whole_word name word = record { name = name; pairs = fixed (span 0 32) word; fields = [] }

-- ---- the table

unfoldable pub scalar_table : List Row
scalar_table =
    u_type (codes "lui") 0b0110111 ∷
    u_type (codes "auipc") 0b0010111 ∷
    j_type (codes "jal") 0b1101111 ∷
    i_type (codes "jalr") 0b1100111 0b000 ∷
    b_type (codes "beq") 0b1100011 0b000 ∷
    b_type (codes "bne") 0b1100011 0b001 ∷
    b_type (codes "blt") 0b1100011 0b100 ∷
    b_type (codes "bge") 0b1100011 0b101 ∷
    b_type (codes "bltu") 0b1100011 0b110 ∷
    b_type (codes "bgeu") 0b1100011 0b111 ∷
    i_type (codes "lb") 0b0000011 0b000 ∷
    i_type (codes "lh") 0b0000011 0b001 ∷
    i_type (codes "lw") 0b0000011 0b010 ∷
    i_type (codes "lbu") 0b0000011 0b100 ∷
    i_type (codes "lhu") 0b0000011 0b101 ∷
    s_type (codes "sb") 0b0100011 0b000 ∷
    s_type (codes "sh") 0b0100011 0b001 ∷
    s_type (codes "sw") 0b0100011 0b010 ∷
    i_type (codes "addi") 0b0010011 0b000 ∷
    i_type (codes "slti") 0b0010011 0b010 ∷
    i_type (codes "sltiu") 0b0010011 0b011 ∷
    i_type (codes "xori") 0b0010011 0b100 ∷
    i_type (codes "ori") 0b0010011 0b110 ∷
    i_type (codes "andi") 0b0010011 0b111 ∷
    r_type (codes "slli") 0b0010011 0b001 0b0000000 ∷
    r_type (codes "srli") 0b0010011 0b101 0b0000000 ∷
    r_type (codes "srai") 0b0010011 0b101 0b0100000 ∷
    r_type (codes "add") 0b0110011 0b000 0b0000000 ∷
    r_type (codes "sub") 0b0110011 0b000 0b0100000 ∷
    r_type (codes "sll") 0b0110011 0b001 0b0000000 ∷
    r_type (codes "slt") 0b0110011 0b010 0b0000000 ∷
    r_type (codes "sltu") 0b0110011 0b011 0b0000000 ∷
    r_type (codes "xor") 0b0110011 0b100 0b0000000 ∷
    r_type (codes "srl") 0b0110011 0b101 0b0000000 ∷
    r_type (codes "sra") 0b0110011 0b101 0b0100000 ∷
    r_type (codes "or") 0b0110011 0b110 0b0000000 ∷
    r_type (codes "and") 0b0110011 0b111 0b0000000 ∷
    r_type (codes "mul") 0b0110011 0b000 0b0000001 ∷
    r_type (codes "mulh") 0b0110011 0b001 0b0000001 ∷
    r_type (codes "mulhsu") 0b0110011 0b010 0b0000001 ∷
    r_type (codes "mulhu") 0b0110011 0b011 0b0000001 ∷
    r_type (codes "div") 0b0110011 0b100 0b0000001 ∷
    r_type (codes "divu") 0b0110011 0b101 0b0000001 ∷
    r_type (codes "rem") 0b0110011 0b110 0b0000001 ∷
    r_type (codes "remu") 0b0110011 0b111 0b0000001 ∷
    amo_type (codes "amoadd.w") 0b0101111 0b010 0b00000 ∷
    whole_word (codes "fence") 0x0FF0000F ∷
    whole_word (codes "ecall") 0x00000073 ∷
    whole_word (codes "ebreak") 0x00100073 ∷
    []

-- the scalar rows, and then the vector rows
unfoldable pub table : List Row
table = scalar_table ++ vector_table

-- ---- the names of operations in the table

abbrev pub branch_name : BranchOp → List ℕ
branch_name branches.Beq = codes "beq"
branch_name branches.Bne = codes "bne"
branch_name branches.Blt = codes "blt"
branch_name branches.Bge = codes "bge"
branch_name branches.Bltu = codes "bltu"
branch_name branches.Bgeu = codes "bgeu"

abbrev pub load_name : LoadOp → List ℕ
load_name loads.Lb = codes "lb"
load_name loads.Lh = codes "lh"
load_name loads.Lw = codes "lw"
load_name loads.Lbu = codes "lbu"
load_name loads.Lhu = codes "lhu"

abbrev pub store_name : StoreOp → List ℕ
store_name stores.Sb = codes "sb"
store_name stores.Sh = codes "sh"
store_name stores.Sw = codes "sw"

abbrev pub alu_imm_name : AluImmOp → List ℕ
alu_imm_name alu_imms.Addi = codes "addi"
alu_imm_name alu_imms.Slti = codes "slti"
alu_imm_name alu_imms.Sltiu = codes "sltiu"
alu_imm_name alu_imms.Xori = codes "xori"
alu_imm_name alu_imms.Ori = codes "ori"
alu_imm_name alu_imms.Andi = codes "andi"

abbrev pub shift_name : ShiftOp → List ℕ
shift_name shifts.Slli = codes "slli"
shift_name shifts.Srli = codes "srli"
shift_name shifts.Srai = codes "srai"

abbrev pub alu_name : AluOp → List ℕ
alu_name alus.Add = codes "add"
alu_name alus.Sub = codes "sub"
alu_name alus.Sll = codes "sll"
alu_name alus.Slt = codes "slt"
alu_name alus.Sltu = codes "sltu"
alu_name alus.Xor = codes "xor"
alu_name alus.Srl = codes "srl"
alu_name alus.Sra = codes "sra"
alu_name alus.Or = codes "or"
alu_name alus.And = codes "and"
alu_name alus.Mul = codes "mul"
alu_name alus.Mulh = codes "mulh"
alu_name alus.Mulhsu = codes "mulhsu"
alu_name alus.Mulhu = codes "mulhu"
alu_name alus.Div = codes "div"
alu_name alus.Divu = codes "divu"
alu_name alus.Rem = codes "rem"
alu_name alus.Remu = codes "remu"

-- ---- all operations of each group

abbrev pub all_branches : List BranchOp
all_branches = branches.Beq ∷ branches.Bne ∷ branches.Blt ∷ branches.Bge ∷ branches.Bltu ∷ branches.Bgeu ∷ []

abbrev pub all_loads : List LoadOp
all_loads = loads.Lb ∷ loads.Lh ∷ loads.Lw ∷ loads.Lbu ∷ loads.Lhu ∷ []

abbrev pub all_stores : List StoreOp
all_stores = stores.Sb ∷ stores.Sh ∷ stores.Sw ∷ []

abbrev pub all_alu_imms : List AluImmOp
all_alu_imms = alu_imms.Addi ∷ alu_imms.Slti ∷ alu_imms.Sltiu ∷ alu_imms.Xori ∷ alu_imms.Ori ∷ alu_imms.Andi ∷ []

abbrev pub all_shifts : List ShiftOp
all_shifts = shifts.Slli ∷ shifts.Srli ∷ shifts.Srai ∷ []

abbrev pub all_alus : List AluOp
all_alus = alus.Add ∷ alus.Sub ∷ alus.Sll ∷ alus.Slt ∷ alus.Sltu ∷ alus.Xor ∷ alus.Srl ∷ alus.Sra ∷ alus.Or ∷ alus.And ∷ alus.Mul ∷ alus.Mulh ∷ alus.Mulhsu
    ∷ alus.Mulhu ∷ alus.Div ∷ alus.Divu ∷ alus.Rem ∷ alus.Remu ∷ []

-- ---- the name and the fields of an instruction

abbrev pub name_of : Insn → List ℕ
name_of (Lui rd imm) = codes "lui"
name_of (Auipc rd imm) = codes "auipc"
name_of (Jal rd offset) = codes "jal"
name_of (Jalr rd rs1 imm) = codes "jalr"
name_of (Branch op rs1 rs2 offset) = branch_name op
name_of (Load op rd rs1 imm) = load_name op
name_of (Store op rs1 rs2 imm) = store_name op
name_of (AluImm op rd rs1 imm) = alu_imm_name op
name_of (Shift op rd rs1 amount) = shift_name op
name_of (Alu op rd rs1 rs2) = alu_name op
name_of (AmoaddW rd rs1 rs2 aq rl) = codes "amoadd.w"
name_of Fence = codes "fence"
name_of Ecall = codes "ecall"
name_of Ebreak = codes "ebreak"
name_of (Vector insn) = vector_name_of insn

-- ---- the numbers in its fields, in the order of its row

abbrev pub fields_of : Insn → List ℤ
fields_of (Lui rd imm) = pos rd ∷ pos imm ∷ []
fields_of (Auipc rd imm) = pos rd ∷ pos imm ∷ []
fields_of (Jal rd offset) = pos rd ∷ offset ∷ []
fields_of (Jalr rd rs1 imm) = pos rd ∷ pos rs1 ∷ imm ∷ []
fields_of (Branch op rs1 rs2 offset) = pos rs1 ∷ pos rs2 ∷ offset ∷ []
fields_of (Load op rd rs1 imm) = pos rd ∷ pos rs1 ∷ imm ∷ []
fields_of (Store op rs1 rs2 imm) = pos rs1 ∷ pos rs2 ∷ imm ∷ []
fields_of (AluImm op rd rs1 imm) = pos rd ∷ pos rs1 ∷ imm ∷ []
fields_of (Shift op rd rs1 amount) = pos rd ∷ pos rs1 ∷ pos amount ∷ []
fields_of (Alu op rd rs1 rs2) = pos rd ∷ pos rs1 ∷ pos rs2 ∷ []
fields_of (AmoaddW rd rs1 rs2 aq rl) = pos rd ∷ pos rs1 ∷ pos rs2 ∷ pos (bit_of aq) ∷ pos (bit_of rl) ∷ []
fields_of Fence = []
fields_of Ecall = []
fields_of Ebreak = []
fields_of (Vector insn) = vector_fields_of insn

-- Some row of the table has the instruction's name, its fixed pairs hold in the word, and the
-- instruction's fields are the numbers that stand at the row's places.
abbrev pub Means : ℕ → Insn → Type 0
Means word insn =
    (row : Row) × Contains table row × Holds word row.pairs × (name_of insn ≡ row.name) × (fields_of insn ≡ map (field_of word) row.fields)
