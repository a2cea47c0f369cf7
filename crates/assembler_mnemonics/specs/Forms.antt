-- Forms: what mnemonics name, and which instructions have which form.
-- RISC-V Unprivileged ISA 20191213, chapter 24 "RV32/64G Instruction Set Listings", and Vector Extension 1.0, chapter
-- 19, for the names; that the bits aq and rl are written after the name of amoadd.w is of chapter 25 of the former.
use Rattle.std.specs.Prelude.{◌≡◌, ℕ, ℤ, Bool, true, false, List, [], ◌++◌, map, codes}
use Rattle.std.specs.List.{Contains}
use Rattle.rv_insn.specs.Encoding.{Holds, Row, field_of, mode_of}
use Rattle.rv_insn.specs.Table.{table, branch_name, load_name, store_name, alu_imm_name, shift_name, alu_name}
use Rattle.rv_insn.specs.VectorTable.{arithmetic_vv_name, arithmetic_vx_name, arithmetic_vi_name, shift_vi_name, compare_vv_name, compare_vx_name}
use Rattle.rv_insn.specs.VectorTable.{compare_vi_name, multiply_vv_name, multiply_vx_name, reduction_name, load_elements_name, store_elements_name}
use Rattle.rv_insn.specs.declared.instructions.Insn.{Insn}
use Rattle.rv_insn.specs.declared.instructions.Insn.TheVariants.{Lui, Auipc, Jal, Jalr, Branch, Load, Store, AluImm, Shift, Alu, AmoaddW, Fence, Ecall, Ebreak}
use Rattle.rv_insn.specs.declared.instructions.Insn.TheVariants.{Vector}
use Rattle.rv_insn.specs.declared.vector_instructions.VectorInsn.{VectorInsn}
use Rattle.rv_insn.specs.declared.vector_instructions.VectorInsn.TheVariants.{ArithmeticVv, ArithmeticVx, ArithmeticVi, ShiftVi, CompareVv, CompareVx}
use Rattle.rv_insn.specs.declared.vector_instructions.VectorInsn.TheVariants.{CompareVi, MultiplyVv, MultiplyVx, Reduce, MergeVv, MergeVx, MergeVi, MoveVv}
use Rattle.rv_insn.specs.declared.vector_instructions.VectorInsn.TheVariants.{MoveVx, MoveVi, MoveToScalar, MoveFromScalar, ElementNumbers, ExtendBytes}
use Rattle.rv_insn.specs.declared.vector_instructions.VectorInsn.TheVariants.{Vsetvli, Vsetivli, Vsetvl, LoadElements, StoreElements}
use Rattle.assembler_mnemonics.specs.declared.forms.MnemonicForm.{MnemonicForm}
use Rattle.assembler_mnemonics.specs.declared.forms.MnemonicForm.TheVariants as f
use Rattle.assembler_mnemonics.specs.declared.forms.VectorForm.{VectorForm}
use Rattle.assembler_mnemonics.specs.declared.forms.VectorForm.TheVariants as v

-- ---- the form of an instruction

abbrev pub vector_form_of : VectorInsn → VectorForm
vector_form_of (ArithmeticVv op vd vs2 vs1 vm) = v.ArithmeticVv op
vector_form_of (ArithmeticVx op vd vs2 rs1 vm) = v.ArithmeticVx op
vector_form_of (ArithmeticVi op vd vs2 imm vm) = v.ArithmeticVi op
vector_form_of (ShiftVi op vd vs2 amount vm) = v.ShiftVi op
vector_form_of (CompareVv op vd vs2 vs1 vm) = v.CompareVv op
vector_form_of (CompareVx op vd vs2 rs1 vm) = v.CompareVx op
vector_form_of (CompareVi op vd vs2 imm vm) = v.CompareVi op
vector_form_of (MultiplyVv op vd vs2 vs1 vm) = v.MultiplyVv op
vector_form_of (MultiplyVx op vd vs2 rs1 vm) = v.MultiplyVx op
vector_form_of (Reduce op vd vs2 vs1 vm) = v.Reduce op
vector_form_of (MergeVv vd vs2 vs1) = v.MergeVv
vector_form_of (MergeVx vd vs2 rs1) = v.MergeVx
vector_form_of (MergeVi vd vs2 imm) = v.MergeVi
vector_form_of (MoveVv vd vs1) = v.MoveVv
vector_form_of (MoveVx vd rs1) = v.MoveVx
vector_form_of (MoveVi vd imm) = v.MoveVi
vector_form_of (MoveToScalar rd vs2) = v.MoveToScalar
vector_form_of (MoveFromScalar vd rs1) = v.MoveFromScalar
vector_form_of (ElementNumbers vd vm) = v.ElementNumbers
vector_form_of (ExtendBytes vd vs2 vm) = v.ExtendBytes
vector_form_of (Vsetvli rd rs1 vtype) = v.Vsetvli
vector_form_of (Vsetivli rd length vtype) = v.Vsetivli
vector_form_of (Vsetvl rd rs1 rs2) = v.Vsetvl
vector_form_of (LoadElements width vd rs1 addressing vm) = v.LoadElements (mode_of addressing) width
vector_form_of (StoreElements width vs3 rs1 addressing vm) = v.StoreElements (mode_of addressing) width

abbrev pub form_of : Insn → MnemonicForm
form_of (Lui rd imm) = f.Lui
form_of (Auipc rd imm) = f.Auipc
form_of (Jal rd offset) = f.Jal
form_of (Jalr rd rs1 imm) = f.Jalr
form_of (Branch op rs1 rs2 offset) = f.Branch op
form_of (Load op rd rs1 imm) = f.Load op
form_of (Store op rs1 rs2 imm) = f.Store op
form_of (AluImm op rd rs1 imm) = f.AluImm op
form_of (Shift op rd rs1 amount) = f.Shift op
form_of (Alu op rd rs1 rs2) = f.Alu op
form_of (AmoaddW rd rs1 rs2 aq rl) = f.AmoaddW aq rl
form_of Fence = f.Fence
form_of Ecall = f.Ecall
form_of Ebreak = f.Ebreak
form_of (Vector insn) = f.Vector (vector_form_of insn)

-- ---- the name of its row

abbrev pub vector_row_name : VectorForm → List ℕ
vector_row_name (v.ArithmeticVv op) = arithmetic_vv_name op
vector_row_name (v.ArithmeticVx op) = arithmetic_vx_name op
vector_row_name (v.ArithmeticVi op) = arithmetic_vi_name op
vector_row_name (v.ShiftVi op) = shift_vi_name op
vector_row_name (v.CompareVv op) = compare_vv_name op
vector_row_name (v.CompareVx op) = compare_vx_name op
vector_row_name (v.CompareVi op) = compare_vi_name op
vector_row_name (v.MultiplyVv op) = multiply_vv_name op
vector_row_name (v.MultiplyVx op) = multiply_vx_name op
vector_row_name (v.Reduce op) = reduction_name op
vector_row_name v.MergeVv = codes "vmerge.vvm"
vector_row_name v.MergeVx = codes "vmerge.vxm"
vector_row_name v.MergeVi = codes "vmerge.vim"
vector_row_name v.MoveVv = codes "vmv.v.v"
vector_row_name v.MoveVx = codes "vmv.v.x"
vector_row_name v.MoveVi = codes "vmv.v.i"
vector_row_name v.MoveToScalar = codes "vmv.x.s"
vector_row_name v.MoveFromScalar = codes "vmv.s.x"
vector_row_name v.ElementNumbers = codes "vid.v"
vector_row_name v.ExtendBytes = codes "vzext.vf4"
vector_row_name v.Vsetvli = codes "vsetvli"
vector_row_name v.Vsetivli = codes "vsetivli"
vector_row_name v.Vsetvl = codes "vsetvl"
vector_row_name (v.LoadElements mode width) = load_elements_name mode width
vector_row_name (v.StoreElements mode width) = store_elements_name mode width

abbrev pub row_name : MnemonicForm → List ℕ
row_name f.Lui = codes "lui"
row_name f.Auipc = codes "auipc"
row_name f.Jal = codes "jal"
row_name f.Jalr = codes "jalr"
row_name (f.Branch op) = branch_name op
row_name (f.Load op) = load_name op
row_name (f.Store op) = store_name op
row_name (f.AluImm op) = alu_imm_name op
row_name (f.Shift op) = shift_name op
row_name (f.Alu op) = alu_name op
row_name (f.AmoaddW aq rl) = codes "amoadd.w"
row_name f.Fence = codes "fence"
row_name f.Ecall = codes "ecall"
row_name f.Ebreak = codes "ebreak"
row_name (f.Vector form) = vector_row_name form

-- ---- its mnemonic: the row's name, and the bits aq and rl of amoadd.w

abbrev pub order_suffix : Bool → Bool → List ℕ
order_suffix false false = []
order_suffix true false = codes ".aq"
order_suffix false true = codes ".rl"
order_suffix true true = codes ".aqrl"

abbrev pub mnemonic : MnemonicForm → List ℕ
mnemonic (f.AmoaddW aq rl) = codes "amoadd.w" ++ order_suffix aq rl
mnemonic form = row_name form

-- ---- the word of a form with numbers in all its fields: some row of the table has its name, the row's
-- ---- fixed pairs hold in the word, and the fields are the numbers that stand at the row's places

abbrev pub IsWord : ℕ → MnemonicForm → List ℤ → Type 0
IsWord word form fields =
    (row : Row) × Contains table row × Holds word row.pairs × (row_name form ≡ row.name) × (fields ≡ map (field_of word) row.fields)
