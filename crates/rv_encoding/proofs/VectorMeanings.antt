-- What a word means among the vector instructions, both ways: the rows by cases against `decoded`.
use Rattle.std.proofs.Common.{◌≡◌, ℕ, [], ◌∷◌, refl, sym, arith, lit<, Option, Some, None, true, false, cond, nat_eq}
use Rattle.std.specs.Prelude.{IfSome}
use Rattle.std.proofs.lemmas.Bool.{eqb-true}
use Rattle.rv_insn.specs.VectorTable.{vector_fields_of}
use Rattle.rv_insn.specs.declared.instructions.Insn.{Insn}
use Rattle.rv_insn.specs.declared.instructions.Insn.TheVariants.{Vector}
use Rattle.rv_insn.specs.declared.vector_instructions.VectorInsn.{VectorInsn}
use Rattle.rv_insn.specs.declared.vector_instructions.VectorInsn.TheVariants as v
use Rattle.rv_insn.specs.declared.vector_instructions.Addressing.{Addressing}
use Rattle.rv_insn.specs.declared.vector_instructions.Addressing.TheVariants as addressings
use Rattle.rv_insn.specs.declared.vector_operations.ElementWidth.{ElementWidth}
use Rattle.rv_encoding.specs.Formats.{Stands, StandsFor, vector_shape_of}
use Rattle.rv_encoding.specs.Decoding.{part, rd_of, rs1_of, rs2_of, vector_immediate_of, vtype10_of, vtype11_of, vm_of, with_op, op_or, merge_in, opivv_in}
use Rattle.rv_encoding.specs.Decoding.{opivx_in, opivi_in, opmvv_in, opmvx_in, config_in, vector_in, addressing_in, with_both, vector_load_in, vector_store_in}
use Rattle.rv_encoding.specs.Decoding.{decoded}
use Rattle.operation_keys.specs.Operations.{arithmetic_vv_funct6, arithmetic_vv_of, arithmetic_vx_funct6, arithmetic_vx_of, arithmetic_vi_funct6, arithmetic_vi_of}
use Rattle.operation_keys.specs.Operations.{shift_vi_funct6, shift_vi_of, compare_vv_funct6, compare_vv_of, compare_vx_funct6, compare_vx_of, compare_vi_funct6}
use Rattle.operation_keys.specs.Operations.{compare_vi_of, multiply_funct6, multiply_of, reduction_funct6, reduction_of, width_funct3, width_of}
use Rattle.rv_encoding.proofs.Bits.{parts_read}
use Rattle.rv_encoding.proofs.Formats.{bit_of-flag}
use Rattle.rv_encoding.proofs.VectorFormats.{registers_made, immediate_made, merge_made, merge_immediate_made, move_made, move_immediate_made, to_scalar_made}
use Rattle.rv_encoding.proofs.VectorFormats.{from_scalar_made, numbers_made, extended_made, vsetvl_made, unit_made, offset_made, vsetvli_stands}
use Rattle.rv_encoding.proofs.VectorFormats.{vsetivli_stands, registers_read, immediate_read_back, merge_read, merge_immediate_read, move_read}
use Rattle.rv_encoding.proofs.VectorFormats.{move_immediate_read, to_scalar_read, numbers_read, extended_read, vsetvli_read, vsetivli_read, vsetvl_read}
use Rattle.rv_encoding.proofs.VectorFormats.{unit_read, offset_read}
use Rattle.rv_encoding.proofs.VectorOperations.{arithmetic_vv_funct6-lt, arithmetic_vv_of-funct6, arithmetic_vv_found, arithmetic_vv_is_not_merge}
use Rattle.rv_encoding.proofs.VectorOperations.{arithmetic_vx_funct6-lt, arithmetic_vx_of-funct6, arithmetic_vx_found, arithmetic_vx_is_not_merge}
use Rattle.rv_encoding.proofs.VectorOperations.{arithmetic_vi_funct6-lt, arithmetic_vi_of-funct6, arithmetic_vi_found, arithmetic_vi_is_not_merge}
use Rattle.rv_encoding.proofs.VectorOperations.{shift_vi_funct6-lt, shift_vi_of-funct6, shift_vi_found, shift_vi_is_not_merge, compare_vv_funct6-lt}
use Rattle.rv_encoding.proofs.VectorOperations.{compare_vv_of-funct6, compare_vv_found, compare_vv_is_not_merge, compare_vx_funct6-lt, compare_vx_of-funct6}
use Rattle.rv_encoding.proofs.VectorOperations.{compare_vx_found, compare_vx_is_not_merge, compare_vi_funct6-lt, compare_vi_of-funct6, compare_vi_found}
use Rattle.rv_encoding.proofs.VectorOperations.{compare_vi_is_not_merge, multiply_funct6-lt, multiply_of-funct6, multiply_found, multiply_is_not_scalar_move}
use Rattle.rv_encoding.proofs.VectorOperations.{multiply_is_not_numbers, multiply_is_not_extended, reduction_funct6-lt, reduction_of-funct6, reduction_found}
use Rattle.rv_encoding.proofs.VectorOperations.{reduction_is_not_scalar_move, reduction_is_not_numbers, reduction_is_not_extended}
use Rattle.rv_encoding.proofs.VectorOperations.{compare_vv_is_no_arithmetic_vv, compare_vx_is_no_arithmetic_vx, shift_vi_is_no_arithmetic_vi}
use Rattle.rv_encoding.proofs.VectorOperations.{compare_vi_is_no_arithmetic_vi, compare_vi_is_no_shift_vi, multiply_is_no_reduction, width_funct3-lt}
use Rattle.rv_encoding.proofs.VectorOperations.{width_of-funct3, width_found}

-- ---- what stands for an instruction is decoded to it

pub vector_decoded : (word : ℕ) (insn : VectorInsn) → Stands word (vector_shape_of insn) (vector_fields_of insn) → decoded word ≡ Some (Vector insn)
unfolding decoded Stands
vector_decoded word (v.ArithmeticVv op vd vs2 vs1 vm) h =
    let p = parts_read word ((0, 7, 0b1010111) ∷ (12, 3, 0b000) ∷ (26, 6, arithmetic_vv_funct6 op) ∷ []) (lit< tt, (lit< tt, (arithmetic_vv_funct6-lt op, tt)))
    h.0 in
    let e = registers_read word vd vs2 vs1 vm h.1 in
    let same : Some (Vector (v.ArithmeticVv op (rd_of word) (rs2_of word) (rs1_of word) (vm_of word))) ≡ Some (Vector (v.ArithmeticVv op vd vs2 vs1 vm)) = cc in
    rw (p.0, p.1.0, p.1.1.0, arithmetic_vv_is_not_merge op, arithmetic_vv_of-funct6 op) same
vector_decoded word (v.ArithmeticVx op vd vs2 rs1 vm) h =
    let p = parts_read word ((0, 7, 0b1010111) ∷ (12, 3, 0b100) ∷ (26, 6, arithmetic_vx_funct6 op) ∷ []) (lit< tt, (lit< tt, (arithmetic_vx_funct6-lt op, tt)))
    h.0 in
    let e = registers_read word vd vs2 rs1 vm h.1 in
    let same : Some (Vector (v.ArithmeticVx op (rd_of word) (rs2_of word) (rs1_of word) (vm_of word))) ≡ Some (Vector (v.ArithmeticVx op vd vs2 rs1 vm)) = cc in
    rw (p.0, p.1.0, p.1.1.0, arithmetic_vx_is_not_merge op, arithmetic_vx_of-funct6 op) same
vector_decoded word (v.ArithmeticVi op vd vs2 imm vm) h =
    let p = parts_read word ((0, 7, 0b1010111) ∷ (12, 3, 0b011) ∷ (26, 6, arithmetic_vi_funct6 op) ∷ []) (lit< tt, (lit< tt, (arithmetic_vi_funct6-lt op, tt)))
    h.0 in
    let e = immediate_read_back word vd vs2 imm vm h.1 in
    let same : Some (Vector (v.ArithmeticVi op (rd_of word) (rs2_of word) (vector_immediate_of word) (vm_of word)))
    ≡ Some (Vector (v.ArithmeticVi op vd vs2 imm vm)) = cc in
    rw (p.0, p.1.0, p.1.1.0, arithmetic_vi_is_not_merge op, arithmetic_vi_of-funct6 op) same
vector_decoded word (v.ShiftVi op vd vs2 amount vm) h =
    let p = parts_read word ((0, 7, 0b1010111) ∷ (12, 3, 0b011) ∷ (26, 6, shift_vi_funct6 op) ∷ []) (lit< tt, (lit< tt, (shift_vi_funct6-lt op, tt))) h.0 in
    let e = registers_read word vd vs2 amount vm h.1 in
    let same : Some (Vector (v.ShiftVi op (rd_of word) (rs2_of word) (rs1_of word) (vm_of word))) ≡ Some (Vector (v.ShiftVi op vd vs2 amount vm)) = cc in
    rw (p.0, p.1.0, p.1.1.0, shift_vi_is_not_merge op, shift_vi_is_no_arithmetic_vi op, shift_vi_of-funct6 op) same
vector_decoded word (v.CompareVv op vd vs2 vs1 vm) h =
    let p = parts_read word ((0, 7, 0b1010111) ∷ (12, 3, 0b000) ∷ (26, 6, compare_vv_funct6 op) ∷ []) (lit< tt, (lit< tt, (compare_vv_funct6-lt op, tt))) h.0 in
    let e = registers_read word vd vs2 vs1 vm h.1 in
    let same : Some (Vector (v.CompareVv op (rd_of word) (rs2_of word) (rs1_of word) (vm_of word))) ≡ Some (Vector (v.CompareVv op vd vs2 vs1 vm)) = cc in
    rw (p.0, p.1.0, p.1.1.0, compare_vv_is_not_merge op, compare_vv_is_no_arithmetic_vv op, compare_vv_of-funct6 op) same
vector_decoded word (v.CompareVx op vd vs2 rs1 vm) h =
    let p = parts_read word ((0, 7, 0b1010111) ∷ (12, 3, 0b100) ∷ (26, 6, compare_vx_funct6 op) ∷ []) (lit< tt, (lit< tt, (compare_vx_funct6-lt op, tt))) h.0 in
    let e = registers_read word vd vs2 rs1 vm h.1 in
    let same : Some (Vector (v.CompareVx op (rd_of word) (rs2_of word) (rs1_of word) (vm_of word))) ≡ Some (Vector (v.CompareVx op vd vs2 rs1 vm)) = cc in
    rw (p.0, p.1.0, p.1.1.0, compare_vx_is_not_merge op, compare_vx_is_no_arithmetic_vx op, compare_vx_of-funct6 op) same
vector_decoded word (v.CompareVi op vd vs2 imm vm) h =
    let p = parts_read word ((0, 7, 0b1010111) ∷ (12, 3, 0b011) ∷ (26, 6, compare_vi_funct6 op) ∷ []) (lit< tt, (lit< tt, (compare_vi_funct6-lt op, tt))) h.0 in
    let e = immediate_read_back word vd vs2 imm vm h.1 in
    let same : Some (Vector (v.CompareVi op (rd_of word) (rs2_of word) (vector_immediate_of word) (vm_of word)))
    ≡ Some (Vector (v.CompareVi op vd vs2 imm vm)) = cc in
    rw (p.0, p.1.0, p.1.1.0, compare_vi_is_not_merge op, compare_vi_is_no_arithmetic_vi op, compare_vi_is_no_shift_vi op, compare_vi_of-funct6 op) same
vector_decoded word (v.MultiplyVv op vd vs2 vs1 vm) h =
    let p = parts_read word ((0, 7, 0b1010111) ∷ (12, 3, 0b010) ∷ (26, 6, multiply_funct6 op) ∷ []) (lit< tt, (lit< tt, (multiply_funct6-lt op, tt))) h.0 in
    let e = registers_read word vd vs2 vs1 vm h.1 in
    let same : Some (Vector (v.MultiplyVv op (rd_of word) (rs2_of word) (rs1_of word) (vm_of word))) ≡ Some (Vector (v.MultiplyVv op vd vs2 vs1 vm)) = cc in
    rw (
      p.0,
      p.1.0,
      p.1.1.0,
      multiply_is_not_scalar_move op,
      multiply_is_not_numbers op,
      multiply_is_not_extended op,
      multiply_is_no_reduction op,
      multiply_of-funct6 op,
    ) same
vector_decoded word (v.MultiplyVx op vd vs2 rs1 vm) h =
    let p = parts_read word ((0, 7, 0b1010111) ∷ (12, 3, 0b110) ∷ (26, 6, multiply_funct6 op) ∷ []) (lit< tt, (lit< tt, (multiply_funct6-lt op, tt))) h.0 in
    let e = registers_read word vd vs2 rs1 vm h.1 in
    let same : Some (Vector (v.MultiplyVx op (rd_of word) (rs2_of word) (rs1_of word) (vm_of word))) ≡ Some (Vector (v.MultiplyVx op vd vs2 rs1 vm)) = cc in
    rw (p.0, p.1.0, p.1.1.0, multiply_is_not_scalar_move op, multiply_of-funct6 op) same
vector_decoded word (v.Reduce op vd vs2 vs1 vm) h =
    let p = parts_read word ((0, 7, 0b1010111) ∷ (12, 3, 0b010) ∷ (26, 6, reduction_funct6 op) ∷ []) (lit< tt, (lit< tt, (reduction_funct6-lt op, tt))) h.0 in
    let e = registers_read word vd vs2 vs1 vm h.1 in
    let same : Some (Vector (v.Reduce op (rd_of word) (rs2_of word) (rs1_of word) (vm_of word))) ≡ Some (Vector (v.Reduce op vd vs2 vs1 vm)) = cc in
    rw (p.0, p.1.0, p.1.1.0, reduction_is_not_scalar_move op, reduction_is_not_numbers op, reduction_is_not_extended op, reduction_of-funct6 op) same
vector_decoded word (v.MergeVv vd vs2 vs1) h =
    let p = parts_read word ((0, 7, 0b1010111) ∷ (12, 3, 0b000) ∷ (26, 6, 0b010111) ∷ (25, 1, 0) ∷ []) (lit< tt, (lit< tt, (lit< tt, (lit< tt, tt)))) h.0 in
    let e = merge_read word vd vs2 vs1 h.1 in
    let same : Some (Vector (v.MergeVv (rd_of word) (rs2_of word) (rs1_of word))) ≡ Some (Vector (v.MergeVv vd vs2 vs1)) = cc in
    rw (p.0, p.1.0, p.1.1.0, p.1.1.1.0) same
vector_decoded word (v.MergeVx vd vs2 rs1) h =
    let p = parts_read word ((0, 7, 0b1010111) ∷ (12, 3, 0b100) ∷ (26, 6, 0b010111) ∷ (25, 1, 0) ∷ []) (lit< tt, (lit< tt, (lit< tt, (lit< tt, tt)))) h.0 in
    let e = merge_read word vd vs2 rs1 h.1 in
    let same : Some (Vector (v.MergeVx (rd_of word) (rs2_of word) (rs1_of word))) ≡ Some (Vector (v.MergeVx vd vs2 rs1)) = cc in
    rw (p.0, p.1.0, p.1.1.0, p.1.1.1.0) same
vector_decoded word (v.MergeVi vd vs2 imm) h =
    let p = parts_read word ((0, 7, 0b1010111) ∷ (12, 3, 0b011) ∷ (26, 6, 0b010111) ∷ (25, 1, 0) ∷ []) (lit< tt, (lit< tt, (lit< tt, (lit< tt, tt)))) h.0 in
    let e = merge_immediate_read word vd vs2 imm h.1 in
    let same : Some (Vector (v.MergeVi (rd_of word) (rs2_of word) (vector_immediate_of word))) ≡ Some (Vector (v.MergeVi vd vs2 imm)) = cc in
    rw (p.0, p.1.0, p.1.1.0, p.1.1.1.0) same
vector_decoded word (v.MoveVv vd vs1) h =
    let p = parts_read word ((0, 7, 0b1010111) ∷ (12, 3, 0b000) ∷ (26, 6, 0b010111) ∷ (25, 1, 1) ∷ (20, 5, 0) ∷ [])
    (lit< tt, (lit< tt, (lit< tt, (lit< tt, (lit< tt, tt))))) h.0 in
    let e = move_read word vd vs1 h.1 in
    let same : Some (Vector (v.MoveVv (rd_of word) (rs1_of word))) ≡ Some (Vector (v.MoveVv vd vs1)) = cc in
    rw (p.0, p.1.0, p.1.1.0, p.1.1.1.0, p.1.1.1.1.0) same
vector_decoded word (v.MoveVx vd rs1) h =
    let p = parts_read word ((0, 7, 0b1010111) ∷ (12, 3, 0b100) ∷ (26, 6, 0b010111) ∷ (25, 1, 1) ∷ (20, 5, 0) ∷ [])
    (lit< tt, (lit< tt, (lit< tt, (lit< tt, (lit< tt, tt))))) h.0 in
    let e = move_read word vd rs1 h.1 in
    let same : Some (Vector (v.MoveVx (rd_of word) (rs1_of word))) ≡ Some (Vector (v.MoveVx vd rs1)) = cc in
    rw (p.0, p.1.0, p.1.1.0, p.1.1.1.0, p.1.1.1.1.0) same
vector_decoded word (v.MoveVi vd imm) h =
    let p = parts_read word ((0, 7, 0b1010111) ∷ (12, 3, 0b011) ∷ (26, 6, 0b010111) ∷ (25, 1, 1) ∷ (20, 5, 0) ∷ [])
    (lit< tt, (lit< tt, (lit< tt, (lit< tt, (lit< tt, tt))))) h.0 in
    let e = move_immediate_read word vd imm h.1 in
    let same : Some (Vector (v.MoveVi (rd_of word) (vector_immediate_of word))) ≡ Some (Vector (v.MoveVi vd imm)) = cc in
    rw (p.0, p.1.0, p.1.1.0, p.1.1.1.0, p.1.1.1.1.0) same
vector_decoded word (v.MoveToScalar rd vs2) h =
    let p = parts_read word ((0, 7, 0b1010111) ∷ (12, 3, 0b010) ∷ (26, 6, 0b010000) ∷ (25, 1, 1) ∷ (15, 5, 0) ∷ [])
    (lit< tt, (lit< tt, (lit< tt, (lit< tt, (lit< tt, tt))))) h.0 in
    let e = to_scalar_read word rd vs2 h.1 in
    let same : Some (Vector (v.MoveToScalar (rd_of word) (rs2_of word))) ≡ Some (Vector (v.MoveToScalar rd vs2)) = cc in
    rw (p.0, p.1.0, p.1.1.0, p.1.1.1.0, p.1.1.1.1.0) same
vector_decoded word (v.MoveFromScalar vd rs1) h =
    let p = parts_read word ((0, 7, 0b1010111) ∷ (12, 3, 0b110) ∷ (26, 6, 0b010000) ∷ (25, 1, 1) ∷ (20, 5, 0) ∷ [])
    (lit< tt, (lit< tt, (lit< tt, (lit< tt, (lit< tt, tt))))) h.0 in
    let e = move_read word vd rs1 h.1 in
    let same : Some (Vector (v.MoveFromScalar (rd_of word) (rs1_of word))) ≡ Some (Vector (v.MoveFromScalar vd rs1)) = cc in
    rw (p.0, p.1.0, p.1.1.0, p.1.1.1.0, p.1.1.1.1.0) same
vector_decoded word (v.ElementNumbers vd vm) h =
    let p = parts_read word ((0, 7, 0b1010111) ∷ (12, 3, 0b010) ∷ (26, 6, 0b010100) ∷ (15, 5, 0b10001) ∷ (20, 5, 0) ∷ [])
    (lit< tt, (lit< tt, (lit< tt, (lit< tt, (lit< tt, tt))))) h.0 in
    let e = numbers_read word vd vm h.1 in
    let same : Some (Vector (v.ElementNumbers (rd_of word) (vm_of word))) ≡ Some (Vector (v.ElementNumbers vd vm)) = cc in
    rw (p.0, p.1.0, p.1.1.0, p.1.1.1.0, p.1.1.1.1.0) same
vector_decoded word (v.ExtendBytes vd vs2 vm) h =
    let p = parts_read word ((0, 7, 0b1010111) ∷ (12, 3, 0b010) ∷ (26, 6, 0b010010) ∷ (15, 5, 0b00100) ∷ []) (lit< tt, (lit< tt, (lit< tt, (lit< tt, tt)))) h.0
    in
    let e = extended_read word vd vs2 vm h.1 in
    let same : Some (Vector (v.ExtendBytes (rd_of word) (rs2_of word) (vm_of word))) ≡ Some (Vector (v.ExtendBytes vd vs2 vm)) = cc in
    rw (p.0, p.1.0, p.1.1.0, p.1.1.1.0) same
vector_decoded word (v.Vsetvli rd rs1 vtype) h =
    let p = parts_read word ((0, 7, 0b1010111) ∷ (12, 3, 0b111) ∷ (31, 1, 0) ∷ []) (lit< tt, (lit< tt, (lit< tt, tt))) h.0 in
    let e = vsetvli_read word rd rs1 vtype h.1 in
    let same : Some (Vector (v.Vsetvli (rd_of word) (rs1_of word) (vtype11_of word))) ≡ Some (Vector (v.Vsetvli rd rs1 vtype)) = cc in
    rw (p.0, p.1.0, p.1.1.0) same
vector_decoded word (v.Vsetivli rd length vtype) h =
    let p = parts_read word ((0, 7, 0b1010111) ∷ (12, 3, 0b111) ∷ (30, 2, 0b11) ∷ []) (lit< tt, (lit< tt, (lit< tt, tt))) h.0 in
    let e = vsetivli_read word rd length vtype h.1 in
    let top : part word 31 1 ≡ 1 = omega (arith, p.1.1.0) in
    let same : Some (Vector (v.Vsetivli (rd_of word) (rs1_of word) (vtype10_of word))) ≡ Some (Vector (v.Vsetivli rd length vtype)) = cc in
    rw (p.0, p.1.0, top, p.1.1.0) same
vector_decoded word (v.Vsetvl rd rs1 rs2) h =
    let p = parts_read word ((0, 7, 0b1010111) ∷ (12, 3, 0b111) ∷ (25, 7, 0b1000000) ∷ []) (lit< tt, (lit< tt, (lit< tt, tt))) h.0 in
    let e = vsetvl_read word rd rs1 rs2 h.1 in
    let top : part word 31 1 ≡ 1 = omega (arith, p.1.1.0) in
    let two : part word 30 2 ≡ 2 = omega (arith, p.1.1.0) in
    let same : Some (Vector (v.Vsetvl (rd_of word) (rs1_of word) (rs2_of word))) ≡ Some (Vector (v.Vsetvl rd rs1 rs2)) = cc in
    rw (p.0, p.1.0, top, two, p.1.1.0) same
vector_decoded word (v.LoadElements width vd rs1 addressings.UnitStride vm) h =
    let p = parts_read word ((0, 7, 0b0000111) ∷ (12, 3, width_funct3 width) ∷ (28, 4, 0b0000) ∷ (26, 2, 0b00) ∷ (20, 5, 0) ∷ [])
    (lit< tt, (width_funct3-lt width, (lit< tt, (lit< tt, (lit< tt, tt))))) h.0 in
    let e = unit_read word vd rs1 vm h.1 in
    let same : Some (Vector (v.LoadElements width (rd_of word) (rs1_of word) addressings.UnitStride (vm_of word)))
    ≡ Some (Vector (v.LoadElements width vd rs1 addressings.UnitStride vm)) = cc in
    rw (p.0, p.1.0, p.1.1.0, p.1.1.1.0, p.1.1.1.1.0, width_of-funct3 width) same
vector_decoded word (v.LoadElements width vd rs1 (addressings.Strided rs2) vm) h =
    let p = parts_read word ((0, 7, 0b0000111) ∷ (12, 3, width_funct3 width) ∷ (28, 4, 0b0000) ∷ (26, 2, 0b10) ∷ [])
    (lit< tt, (width_funct3-lt width, (lit< tt, (lit< tt, tt)))) h.0 in
    let e = offset_read word vd rs1 rs2 vm h.1 in
    let same : Some (Vector (v.LoadElements width (rd_of word) (rs1_of word) (addressings.Strided (rs2_of word)) (vm_of word)))
    ≡ Some (Vector (v.LoadElements width vd rs1 (addressings.Strided rs2) vm)) = cc in
    rw (p.0, p.1.0, p.1.1.0, p.1.1.1.0, width_of-funct3 width) same
vector_decoded word (v.LoadElements width vd rs1 (addressings.Indexed vs2) vm) h =
    let p = parts_read word ((0, 7, 0b0000111) ∷ (12, 3, width_funct3 width) ∷ (28, 4, 0b0000) ∷ (26, 2, 0b01) ∷ [])
    (lit< tt, (width_funct3-lt width, (lit< tt, (lit< tt, tt)))) h.0 in
    let e = offset_read word vd rs1 vs2 vm h.1 in
    let same : Some (Vector (v.LoadElements width (rd_of word) (rs1_of word) (addressings.Indexed (rs2_of word)) (vm_of word)))
    ≡ Some (Vector (v.LoadElements width vd rs1 (addressings.Indexed vs2) vm)) = cc in
    rw (p.0, p.1.0, p.1.1.0, p.1.1.1.0, width_of-funct3 width) same
vector_decoded word (v.StoreElements width vs3 rs1 addressings.UnitStride vm) h =
    let p = parts_read word ((0, 7, 0b0100111) ∷ (12, 3, width_funct3 width) ∷ (28, 4, 0b0000) ∷ (26, 2, 0b00) ∷ (20, 5, 0) ∷ [])
    (lit< tt, (width_funct3-lt width, (lit< tt, (lit< tt, (lit< tt, tt))))) h.0 in
    let e = unit_read word vs3 rs1 vm h.1 in
    let same : Some (Vector (v.StoreElements width (rd_of word) (rs1_of word) addressings.UnitStride (vm_of word)))
    ≡ Some (Vector (v.StoreElements width vs3 rs1 addressings.UnitStride vm)) = cc in
    rw (p.0, p.1.0, p.1.1.0, p.1.1.1.0, p.1.1.1.1.0, width_of-funct3 width) same
vector_decoded word (v.StoreElements width vs3 rs1 (addressings.Strided rs2) vm) h =
    let p = parts_read word ((0, 7, 0b0100111) ∷ (12, 3, width_funct3 width) ∷ (28, 4, 0b0000) ∷ (26, 2, 0b10) ∷ [])
    (lit< tt, (width_funct3-lt width, (lit< tt, (lit< tt, tt)))) h.0 in
    let e = offset_read word vs3 rs1 rs2 vm h.1 in
    let same : Some (Vector (v.StoreElements width (rd_of word) (rs1_of word) (addressings.Strided (rs2_of word)) (vm_of word)))
    ≡ Some (Vector (v.StoreElements width vs3 rs1 (addressings.Strided rs2) vm)) = cc in
    rw (p.0, p.1.0, p.1.1.0, p.1.1.1.0, width_of-funct3 width) same
vector_decoded word (v.StoreElements width vs3 rs1 (addressings.Indexed vs2) vm) h =
    let p = parts_read word ((0, 7, 0b0100111) ∷ (12, 3, width_funct3 width) ∷ (28, 4, 0b0000) ∷ (26, 2, 0b01) ∷ [])
    (lit< tt, (width_funct3-lt width, (lit< tt, (lit< tt, tt)))) h.0 in
    let e = offset_read word vs3 rs1 vs2 vm h.1 in
    let same : Some (Vector (v.StoreElements width (rd_of word) (rs1_of word) (addressings.Indexed (rs2_of word)) (vm_of word)))
    ≡ Some (Vector (v.StoreElements width vs3 rs1 (addressings.Indexed vs2) vm)) = cc in
    rw (p.0, p.1.0, p.1.1.0, p.1.1.1.0, width_of-funct3 width) same

-- ---- and what is decoded stands for its instruction

-- a group that is tried first, and what is tried after it
pub tried : {A : Type 0} (a b : ℕ) (group rest : Option A) (P : A → Type 0) → (a ≡ b → IfSome group P) → IfSome rest P → IfSome (cond (nat_eq a b) group rest) P
tried a b group rest P h k = elim (nat_eq a b) as (λ t. (nat_eq a b ≡ t) → IfSome (cond t group rest) P) [ true ↦ λ e. h (eqb-true a b e) | false ↦ λ e. k ]
    refl

pub with_found : {Op : Type 0} (make : Op → Insn) (o : Option Op) (P : Insn → Type 0) → ((op : Op) → o ≡ Some op → P (make op)) → IfSome (with_op make o) P
with_found make None P h = tt
with_found make (Some op) P h = h op refl

or_found : {Op : Type 0} (make : Op → Insn) (o : Option Op) (other : Option Insn) (P : Insn → Type 0) → ((op : Op) → o ≡ Some op → P (make op)) → IfSome other P
    → IfSome (op_or make o other) P
or_found make None other P h k = k
or_found make (Some op) other P h k = h op refl

merged : (word : ℕ) (merge move : VectorInsn) → (part word 25 1 ≡ 0 → StandsFor word (Vector merge)) → (part word 25 1 ≡ 1 → part word 20 5 ≡ 0
    → StandsFor word (Vector move)) → IfSome (merge_in (part word 25 1) (part word 20 5) merge move) (StandsFor word)
merged word merge move h k = elim (nat_eq (part word 25 1) 0) as (λ t. (nat_eq (part word 25 1) 0 ≡ t)
    → IfSome (cond t (Some (Vector merge)) (cond (nat_eq (part word 20 5) 0) (Some (Vector move)) None)) (StandsFor word)) [
      | true ↦ λ e. h (eqb-true _ _ e)
      | false ↦ λ e. tried (part word 20 5) 0 _ _ (StandsFor word) (λ last. k (grind arith) last) tt
    ] refl

opivv_stands : (word : ℕ) → part word 0 7 ≡ 0b1010111 → part word 12 3 ≡ 0b000 → IfSome (opivv_in (part word 26 6) (part word 25 1) (part word 20 5) word)
    (StandsFor word)
opivv_stands word o f =
    tried (part word 26 6) 0b010111 _ _ (StandsFor word)
    (λ s. merged word _ _ (λ m. merge_made word 0b000 _ _ _ o f s m refl refl refl) (λ m last. move_made word 0b000 _ _ o f s m last refl refl))
    (or_found _ (arithmetic_vv_of (part word 26 6)) _ (StandsFor word) (λ op e. registers_made word 0b000 (arithmetic_vv_funct6 op) _ _ _ _ o f
    (sym (arithmetic_vv_found _ op e)) refl refl refl (bit_of-flag (part word 25 1) (omega arith)))
    (with_found _ (compare_vv_of (part word 26 6)) (StandsFor word) (λ op e. registers_made word 0b000 (compare_vv_funct6 op) _ _ _ _ o f
    (sym (compare_vv_found _ op e)) refl refl refl (bit_of-flag (part word 25 1) (omega arith)))))

opivx_stands : (word : ℕ) → part word 0 7 ≡ 0b1010111 → part word 12 3 ≡ 0b100 → IfSome (opivx_in (part word 26 6) (part word 25 1) (part word 20 5) word)
    (StandsFor word)
opivx_stands word o f =
    tried (part word 26 6) 0b010111 _ _ (StandsFor word)
    (λ s. merged word _ _ (λ m. merge_made word 0b100 _ _ _ o f s m refl refl refl) (λ m last. move_made word 0b100 _ _ o f s m last refl refl))
    (or_found _ (arithmetic_vx_of (part word 26 6)) _ (StandsFor word) (λ op e. registers_made word 0b100 (arithmetic_vx_funct6 op) _ _ _ _ o f
    (sym (arithmetic_vx_found _ op e)) refl refl refl (bit_of-flag (part word 25 1) (omega arith)))
    (with_found _ (compare_vx_of (part word 26 6)) (StandsFor word) (λ op e. registers_made word 0b100 (compare_vx_funct6 op) _ _ _ _ o f
    (sym (compare_vx_found _ op e)) refl refl refl (bit_of-flag (part word 25 1) (omega arith)))))

opivi_stands : (word : ℕ) → part word 0 7 ≡ 0b1010111 → part word 12 3 ≡ 0b011 → IfSome (opivi_in (part word 26 6) (part word 25 1) (part word 20 5) word)
    (StandsFor word)
opivi_stands word o f =
    tried (part word 26 6) 0b010111 _ _ (StandsFor word)
    (λ s. merged word _ _ (λ m. merge_immediate_made word _ _ _ o f s m refl refl refl) (λ m last. move_immediate_made word _ _ o f s m last refl refl))
    (or_found _ (arithmetic_vi_of (part word 26 6)) _ (StandsFor word) (λ op e. immediate_made word (arithmetic_vi_funct6 op) _ _ _ _ o f
    (sym (arithmetic_vi_found _ op e)) refl refl refl (bit_of-flag (part word 25 1) (omega arith)))
    (or_found _ (shift_vi_of (part word 26 6)) _ (StandsFor word) (λ op e. registers_made word 0b011 (shift_vi_funct6 op) _ _ _ _ o f
    (sym (shift_vi_found _ op e)) refl refl refl (bit_of-flag (part word 25 1) (omega arith)))
    (with_found _ (compare_vi_of (part word 26 6)) (StandsFor word) (λ op e. immediate_made word (compare_vi_funct6 op) _ _ _ _ o f
    (sym (compare_vi_found _ op e)) refl refl refl (bit_of-flag (part word 25 1) (omega arith))))))

opmvv_stands : (word : ℕ) → part word 0 7 ≡ 0b1010111 → part word 12 3 ≡ 0b010
    → IfSome (opmvv_in (part word 26 6) (part word 25 1) (part word 15 5) (part word 20 5) word) (StandsFor word)
opmvv_stands word o f =
    tried (part word 26 6) 0b010000 _ _ (StandsFor word)
    (λ s. tried (part word 25 1) 1 _ _ (StandsFor word) (λ m. tried (part word 15 5) 0 _ _ (StandsFor word) (λ z. to_scalar_made word _ _ o f s m z refl refl)
    tt) tt)
    (tried (part word 26 6) 0b010100 _ _ (StandsFor word)
    (λ s. tried (part word 15 5) 0b10001 _ _ (StandsFor word) (λ m. tried (part word 20 5) 0 _ _ (StandsFor word) (λ z. numbers_made word _ _ o f s m z refl
    (bit_of-flag (part word 25 1) (omega arith))) tt) tt)
    (tried (part word 26 6) 0b010010 _ _ (StandsFor word)
    (λ s. tried (part word 15 5) 0b00100 _ _ (StandsFor word) (λ m. extended_made word _ _ _ o f s m refl refl (bit_of-flag (part word 25 1) (omega arith))) tt)
    (or_found _ (reduction_of (part word 26 6)) _ (StandsFor word) (λ op e. registers_made word 0b010 (reduction_funct6 op) _ _ _ _ o f
    (sym (reduction_found _ op e)) refl refl refl (bit_of-flag (part word 25 1) (omega arith)))
    (with_found _ (multiply_of (part word 26 6)) (StandsFor word) (λ op e. registers_made word 0b010 (multiply_funct6 op) _ _ _ _ o f
    (sym (multiply_found _ op e)) refl refl refl (bit_of-flag (part word 25 1) (omega arith)))))))

opmvx_stands : (word : ℕ) → part word 0 7 ≡ 0b1010111 → part word 12 3 ≡ 0b110 → IfSome (opmvx_in (part word 26 6) (part word 25 1) (part word 20 5) word)
    (StandsFor word)
opmvx_stands word o f =
    tried (part word 26 6) 0b010000 _ _ (StandsFor word)
    (λ s. tried (part word 25 1) 1 _ _ (StandsFor word) (λ m. tried (part word 20 5) 0 _ _ (StandsFor word) (λ z. from_scalar_made word _ _ o f s m z refl refl)
    tt) tt)
    (with_found _ (multiply_of (part word 26 6)) (StandsFor word) (λ op e. registers_made word 0b110 (multiply_funct6 op) _ _ _ _ o f
    (sym (multiply_found _ op e)) refl refl refl (bit_of-flag (part word 25 1) (omega arith))))

config_stands : (word : ℕ) → part word 0 7 ≡ 0b1010111 → part word 12 3 ≡ 0b111 → IfSome (config_in (part word 31 1) (part word 30 2) (part word 25 7) word)
    (StandsFor word)
config_stands word o f =
    tried (part word 31 1) 0 _ _ (StandsFor word) (λ t. vsetvli_stands word o f t)
    (tried (part word 30 2) 0b11 _ _ (StandsFor word) (λ t. vsetivli_stands word o f t)
    (tried (part word 25 7) 0b1000000 _ _ (StandsFor word) (λ t. vsetvl_made word _ _ _ o f t refl refl refl) tt))

pub op_v_stands : (word : ℕ) → part word 0 7 ≡ 0b1010111 → IfSome (vector_in (part word 12 3) word) (StandsFor word)
op_v_stands word o =
    tried (part word 12 3) 0b000 _ _ (StandsFor word) (opivv_stands word o) (
    tried (part word 12 3) 0b010 _ _ (StandsFor word) (opmvv_stands word o) (
    tried (part word 12 3) 0b011 _ _ (StandsFor word) (opivi_stands word o) (
    tried (part word 12 3) 0b100 _ _ (StandsFor word) (opivx_stands word o) (
    tried (part word 12 3) 0b110 _ _ (StandsFor word) (opmvx_stands word o) (
    tried (part word 12 3) 0b111 _ _ (StandsFor word) (config_stands word o) tt)))))

both_found : (make : ElementWidth → Addressing → Insn) (o : Option ElementWidth) (addressing : Option Addressing) (P : Insn → Type 0)
    → IfSome addressing (λ a. (width : ElementWidth) → o ≡ Some width → P (make width a)) → IfSome (with_both make o addressing) P
both_found make None addressing P h = tt
both_found make (Some width) None P h = tt
both_found make (Some width) (Some addressing) P h = h width refl

-- the addressings, one after the other
addressed : (word : ℕ) (P : Addressing → Type 0) → (part word 26 2 ≡ 0b00 → part word 20 5 ≡ 0 → P addressings.UnitStride) → (part word 26 2 ≡ 0b10
    → P (addressings.Strided (rs2_of word))) → (part word 26 2 ≡ 0b01 → P (addressings.Indexed (rs2_of word)))
    → IfSome (addressing_in (part word 26 2) (part word 20 5) word) P
addressed word P unit strided indexed =
    tried (part word 26 2) 0b00 _ _ P (λ mode. tried (part word 20 5) 0 _ _ P (λ last. unit mode last) tt)
    (tried (part word 26 2) 0b10 _ _ P strided
    (tried (part word 26 2) 0b01 _ _ P indexed tt))

pub load_stands : (word : ℕ) → part word 0 7 ≡ 0b0000111 → IfSome (vector_load_in (part word 12 3) (part word 28 4) (part word 26 2) (part word 20 5) word)
    (StandsFor word)
load_stands word o =
    tried (part word 28 4) 0 _ _ (StandsFor word) (λ high. both_found _ (width_of (part word 12 3)) (addressing_in (part word 26 2) (part word 20 5) word)
    (StandsFor word) (addressed word _
    (λ mode last width e. unit_made word 0b0000111 (width_funct3 width) _ _ _ o (sym (width_found _ width e)) high mode last refl refl
    (bit_of-flag (part word 25 1) (omega arith)))
    (λ mode width e. offset_made word 0b0000111 (width_funct3 width) 0b10 _ _ _ _ o (sym (width_found _ width e)) high mode refl refl refl
    (bit_of-flag (part word 25 1) (omega arith)))
    (λ mode width e. offset_made word 0b0000111 (width_funct3 width) 0b01 _ _ _ _ o (sym (width_found _ width e)) high mode refl refl refl
    (bit_of-flag (part word 25 1) (omega arith))))) tt

pub store_stands : (word : ℕ) → part word 0 7 ≡ 0b0100111 → IfSome (vector_store_in (part word 12 3) (part word 28 4) (part word 26 2) (part word 20 5) word)
    (StandsFor word)
store_stands word o =
    tried (part word 28 4) 0 _ _ (StandsFor word) (λ high. both_found _ (width_of (part word 12 3)) (addressing_in (part word 26 2) (part word 20 5) word)
    (StandsFor word) (addressed word _
    (λ mode last width e. unit_made word 0b0100111 (width_funct3 width) _ _ _ o (sym (width_found _ width e)) high mode last refl refl
    (bit_of-flag (part word 25 1) (omega arith)))
    (λ mode width e. offset_made word 0b0100111 (width_funct3 width) 0b10 _ _ _ _ o (sym (width_found _ width e)) high mode refl refl refl
    (bit_of-flag (part word 25 1) (omega arith)))
    (λ mode width e. offset_made word 0b0100111 (width_funct3 width) 0b01 _ _ _ _ o (sym (width_found _ width e)) high mode refl refl refl
    (bit_of-flag (part word 25 1) (omega arith))))) tt
