-- The keys that tell the operations of a group apart, which are those of the table, and the operation that has given keys. Words
-- are decoded by them; that this is the literal table read backwards is a theorem (`decoded_is_meant`).
use Rattle.std.specs.Prelude.{ℕ, ◌==◌, ◌&&◌, Option, find, zero, suc, ◌+◌, ◌*◌, List, Some, None}
use Rattle.std.specs.Str.{bytes_eq}
use Rattle.rv_insn.specs.Table.{scalar_table, branch_name, load_name, store_name, alu_imm_name, shift_name, alu_name, all_branches, all_loads, all_stores}
use Rattle.rv_insn.specs.Table.{all_alu_imms, all_shifts, all_alus}
use Rattle.rv_insn.specs.declared.operations.BranchOp.{BranchOp}
use Rattle.rv_insn.specs.declared.operations.LoadOp.{LoadOp}
use Rattle.rv_insn.specs.declared.operations.StoreOp.{StoreOp}
use Rattle.rv_insn.specs.declared.operations.AluImmOp.{AluImmOp}
use Rattle.rv_insn.specs.declared.operations.ShiftOp.{ShiftOp}
use Rattle.rv_insn.specs.declared.operations.AluOp.{AluOp}
use Rattle.rv_insn.specs.VectorTable.{vector_table, arithmetic_vv_name, arithmetic_vx_name, arithmetic_vi_name, shift_vi_name, compare_vv_name, compare_vx_name}
use Rattle.rv_insn.specs.VectorTable.{compare_vi_name, multiply_vv_name, reduction_name, load_elements_name, all_arithmetic_vvs, all_arithmetic_vxs}
use Rattle.rv_insn.specs.VectorTable.{all_arithmetic_vis, all_shift_vis, all_compare_vvs, all_compare_vxs, all_compare_vis, all_multiplies, all_reductions}
use Rattle.rv_insn.specs.VectorTable.{all_widths}
use Rattle.rv_insn.specs.declared.vector_operations.AddressMode.TheVariants as modes
use Rattle.rv_insn.specs.declared.vector_operations.ArithmeticVvOp.{ArithmeticVvOp}
use Rattle.rv_insn.specs.declared.vector_operations.ArithmeticVxOp.{ArithmeticVxOp}
use Rattle.rv_insn.specs.declared.vector_operations.ArithmeticViOp.{ArithmeticViOp}
use Rattle.rv_insn.specs.declared.vector_operations.ShiftViOp.{ShiftViOp}
use Rattle.rv_insn.specs.declared.vector_operations.CompareVvOp.{CompareVvOp}
use Rattle.rv_insn.specs.declared.vector_operations.CompareVxOp.{CompareVxOp}
use Rattle.rv_insn.specs.declared.vector_operations.CompareViOp.{CompareViOp}
use Rattle.rv_insn.specs.declared.vector_operations.MultiplyOp.{MultiplyOp}
use Rattle.rv_insn.specs.declared.vector_operations.ReductionOp.{ReductionOp}
use Rattle.rv_insn.specs.declared.vector_operations.ElementWidth.{ElementWidth}
use Rattle.rv_insn.specs.Encoding.{Row}

-- ---- the numbers that a row of the instruction table fixes, by the row's name

-- the row of a name among some
abbrev pub row_named : List Row → List ℕ → Option Row
row_named rows name = find (λ row. bytes_eq name row.name) rows

abbrev pub digit_of : Option (ℕ × ℕ) → ℕ
digit_of None = 0
digit_of (Some pair) = pair.1

-- the number whose digits are fixed at this many positions from `low` upwards
abbrev pub fixed_at : List (ℕ × ℕ) → ℕ → ℕ → ℕ
fixed_at pairs low zero = 0
fixed_at pairs low (suc count) = digit_of (find (λ pair. pair.0 == low) pairs) + 2 * fixed_at pairs (low + 1) count

abbrev pub fixed_in : Option Row → ℕ → ℕ → ℕ
fixed_in None low count = 0
fixed_in (Some row) low count = fixed_at row.pairs low count

-- the same of the row of a name
unfoldable pub key_in : List Row → ℕ → ℕ → List ℕ → ℕ
key_in rows low count name = fixed_in (row_named rows name) low count

-- ---- branches, by funct3

abbrev pub branch_funct3 : BranchOp → ℕ
branch_funct3 op = key_in scalar_table 12 3 (branch_name op)

abbrev pub branch_of : ℕ → Option BranchOp
branch_of funct3 = find (λ op. branch_funct3 op == funct3) all_branches

-- ---- loads, by funct3

abbrev pub load_funct3 : LoadOp → ℕ
load_funct3 op = key_in scalar_table 12 3 (load_name op)

abbrev pub load_of : ℕ → Option LoadOp
load_of funct3 = find (λ op. load_funct3 op == funct3) all_loads

-- ---- stores, by funct3

abbrev pub store_funct3 : StoreOp → ℕ
store_funct3 op = key_in scalar_table 12 3 (store_name op)

abbrev pub store_of : ℕ → Option StoreOp
store_of funct3 = find (λ op. store_funct3 op == funct3) all_stores

-- ---- operations on a register and an immediate, by funct3

abbrev pub alu_imm_funct3 : AluImmOp → ℕ
alu_imm_funct3 op = key_in scalar_table 12 3 (alu_imm_name op)

abbrev pub alu_imm_of : ℕ → Option AluImmOp
alu_imm_of funct3 = find (λ op. alu_imm_funct3 op == funct3) all_alu_imms

-- ---- shifts by an amount in the word, by funct3 and funct7

abbrev pub shift_funct3 : ShiftOp → ℕ
shift_funct3 op = key_in scalar_table 12 3 (shift_name op)

abbrev pub shift_funct7 : ShiftOp → ℕ
shift_funct7 op = key_in scalar_table 25 7 (shift_name op)

abbrev pub shift_of : ℕ → ℕ → Option ShiftOp
shift_of funct3 funct7 = find (λ op. (shift_funct3 op == funct3) && (shift_funct7 op == funct7)) all_shifts

-- ---- operations on two registers, by funct3 and funct7

abbrev pub alu_funct3 : AluOp → ℕ
alu_funct3 op = key_in scalar_table 12 3 (alu_name op)

abbrev pub alu_funct7 : AluOp → ℕ
alu_funct7 op = key_in scalar_table 25 7 (alu_name op)

abbrev pub alu_of : ℕ → ℕ → Option AluOp
alu_of funct3 funct7 = find (λ op. (alu_funct3 op == funct3) && (alu_funct7 op == funct7)) all_alus

-- ---- an operation on two vector registers, by funct6

abbrev pub arithmetic_vv_funct6 : ArithmeticVvOp → ℕ
arithmetic_vv_funct6 op = key_in vector_table 26 6 (arithmetic_vv_name op)

abbrev pub arithmetic_vv_of : ℕ → Option ArithmeticVvOp
arithmetic_vv_of funct6 = find (λ op. arithmetic_vv_funct6 op == funct6) all_arithmetic_vvs

-- ---- an operation on a vector and an integer register, by funct6

abbrev pub arithmetic_vx_funct6 : ArithmeticVxOp → ℕ
arithmetic_vx_funct6 op = key_in vector_table 26 6 (arithmetic_vx_name op)

abbrev pub arithmetic_vx_of : ℕ → Option ArithmeticVxOp
arithmetic_vx_of funct6 = find (λ op. arithmetic_vx_funct6 op == funct6) all_arithmetic_vxs

-- ---- an operation on a vector register and an immediate, by funct6

abbrev pub arithmetic_vi_funct6 : ArithmeticViOp → ℕ
arithmetic_vi_funct6 op = key_in vector_table 26 6 (arithmetic_vi_name op)

abbrev pub arithmetic_vi_of : ℕ → Option ArithmeticViOp
arithmetic_vi_of funct6 = find (λ op. arithmetic_vi_funct6 op == funct6) all_arithmetic_vis

-- ---- a shift by an amount in the word, by funct6

abbrev pub shift_vi_funct6 : ShiftViOp → ℕ
shift_vi_funct6 op = key_in vector_table 26 6 (shift_vi_name op)

abbrev pub shift_vi_of : ℕ → Option ShiftViOp
shift_vi_of funct6 = find (λ op. shift_vi_funct6 op == funct6) all_shift_vis

-- ---- a comparison of two vector registers, by funct6

abbrev pub compare_vv_funct6 : CompareVvOp → ℕ
compare_vv_funct6 op = key_in vector_table 26 6 (compare_vv_name op)

abbrev pub compare_vv_of : ℕ → Option CompareVvOp
compare_vv_of funct6 = find (λ op. compare_vv_funct6 op == funct6) all_compare_vvs

-- ---- a comparison with an integer register, by funct6

abbrev pub compare_vx_funct6 : CompareVxOp → ℕ
compare_vx_funct6 op = key_in vector_table 26 6 (compare_vx_name op)

abbrev pub compare_vx_of : ℕ → Option CompareVxOp
compare_vx_of funct6 = find (λ op. compare_vx_funct6 op == funct6) all_compare_vxs

-- ---- a comparison with an immediate, by funct6

abbrev pub compare_vi_funct6 : CompareViOp → ℕ
compare_vi_funct6 op = key_in vector_table 26 6 (compare_vi_name op)

abbrev pub compare_vi_of : ℕ → Option CompareViOp
compare_vi_of funct6 = find (λ op. compare_vi_funct6 op == funct6) all_compare_vis

-- ---- a multiplication or division, by funct6

abbrev pub multiply_funct6 : MultiplyOp → ℕ
multiply_funct6 op = key_in vector_table 26 6 (multiply_vv_name op)

abbrev pub multiply_of : ℕ → Option MultiplyOp
multiply_of funct6 = find (λ op. multiply_funct6 op == funct6) all_multiplies

-- ---- a reduction, by funct6

abbrev pub reduction_funct6 : ReductionOp → ℕ
reduction_funct6 op = key_in vector_table 26 6 (reduction_name op)

abbrev pub reduction_of : ℕ → Option ReductionOp
reduction_of funct6 = find (λ op. reduction_funct6 op == funct6) all_reductions

-- ---- widths, where funct3 is

abbrev pub width_funct3 : ElementWidth → ℕ
width_funct3 width = key_in vector_table 12 3 (load_elements_name modes.UnitStride width)

abbrev pub width_of : ℕ → Option ElementWidth
width_of funct3 = find (λ width. width_funct3 width == funct3) all_widths
