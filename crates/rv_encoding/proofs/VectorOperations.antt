-- Each vector operation's key fits its field, and an operation is found by its key and by no other.
use Rattle.std.proofs.Common.{◌≡◌, ℕ, ◌<◌, ◌^◌, ◌==◌, Some, None, false, nat_eq, arith}
use Rattle.std.proofs.lemmas.Bool.{eqb-true}
use Rattle.rv_insn.specs.declared.vector_operations.ArithmeticVvOp.{ArithmeticVvOp}
use Rattle.rv_insn.specs.declared.vector_operations.ArithmeticVxOp.{ArithmeticVxOp}
use Rattle.rv_insn.specs.declared.vector_operations.ArithmeticViOp.{ArithmeticViOp}
use Rattle.rv_insn.specs.declared.vector_operations.ShiftViOp.{ShiftViOp}
use Rattle.rv_insn.specs.declared.vector_operations.CompareVvOp.{CompareVvOp}
use Rattle.rv_insn.specs.declared.vector_operations.CompareVxOp.{CompareVxOp}
use Rattle.rv_insn.specs.declared.vector_operations.CompareViOp.{CompareViOp}
use Rattle.rv_insn.specs.declared.vector_operations.MultiplyOp.{MultiplyOp}
use Rattle.rv_insn.specs.declared.vector_operations.ReductionOp.{ReductionOp}
use Rattle.rv_insn.specs.declared.vector_operations.ElementWidth.{ElementWidth}
use Rattle.rv_insn.specs.Encoding.{in_parts, fixed, span}
use Rattle.rv_insn.specs.VectorTable.{vector_table, all_arithmetic_vvs, all_arithmetic_vxs, all_arithmetic_vis, all_shift_vis, all_compare_vvs, all_compare_vxs}
use Rattle.rv_insn.specs.VectorTable.{all_compare_vis, all_multiplies, all_reductions, all_widths}
use Rattle.operation_keys.specs.Operations.{key_in, arithmetic_vv_funct6, arithmetic_vv_of, arithmetic_vx_funct6, arithmetic_vx_of, arithmetic_vi_funct6}
use Rattle.operation_keys.specs.Operations.{arithmetic_vi_of, shift_vi_funct6, shift_vi_of, compare_vv_funct6, compare_vv_of, compare_vx_funct6, compare_vx_of}
use Rattle.operation_keys.specs.Operations.{compare_vi_funct6, compare_vi_of, multiply_funct6, multiply_of, reduction_funct6, reduction_of, width_funct3, width_of}
use Rattle.rv_encoding.proofs.Lists.{find_passes}

-- ---- an operation on two vector registers

pub arithmetic_vv_funct6-lt : (op : ArithmeticVvOp) → arithmetic_vv_funct6 op < 2 ^ 6
unfolding key_in vector_table in_parts fixed span
arithmetic_vv_funct6-lt op = grind arith

pub arithmetic_vv_of-funct6 : (op : ArithmeticVvOp) → arithmetic_vv_of (arithmetic_vv_funct6 op) ≡ Some op
unfolding key_in vector_table in_parts fixed span
arithmetic_vv_of-funct6 op = grind arith

pub arithmetic_vv_found : (funct6 : ℕ) (op : ArithmeticVvOp) → arithmetic_vv_of funct6 ≡ Some op → arithmetic_vv_funct6 op ≡ funct6
arithmetic_vv_found funct6 op e = eqb-true _ funct6 (find_passes (λ op. arithmetic_vv_funct6 op == funct6) all_arithmetic_vvs op e)

pub arithmetic_vv_is_not_merge : (op : ArithmeticVvOp) → nat_eq (arithmetic_vv_funct6 op) 0b010111 ≡ false
unfolding key_in vector_table in_parts fixed span
arithmetic_vv_is_not_merge op = grind arith

-- ---- an operation on a vector and an integer register

pub arithmetic_vx_funct6-lt : (op : ArithmeticVxOp) → arithmetic_vx_funct6 op < 2 ^ 6
unfolding key_in vector_table in_parts fixed span
arithmetic_vx_funct6-lt op = grind arith

pub arithmetic_vx_of-funct6 : (op : ArithmeticVxOp) → arithmetic_vx_of (arithmetic_vx_funct6 op) ≡ Some op
unfolding key_in vector_table in_parts fixed span
arithmetic_vx_of-funct6 op = grind arith

pub arithmetic_vx_found : (funct6 : ℕ) (op : ArithmeticVxOp) → arithmetic_vx_of funct6 ≡ Some op → arithmetic_vx_funct6 op ≡ funct6
arithmetic_vx_found funct6 op e = eqb-true _ funct6 (find_passes (λ op. arithmetic_vx_funct6 op == funct6) all_arithmetic_vxs op e)

pub arithmetic_vx_is_not_merge : (op : ArithmeticVxOp) → nat_eq (arithmetic_vx_funct6 op) 0b010111 ≡ false
unfolding key_in vector_table in_parts fixed span
arithmetic_vx_is_not_merge op = grind arith

-- ---- an operation on a vector register and an immediate

pub arithmetic_vi_funct6-lt : (op : ArithmeticViOp) → arithmetic_vi_funct6 op < 2 ^ 6
unfolding key_in vector_table in_parts fixed span
arithmetic_vi_funct6-lt op = grind arith

pub arithmetic_vi_of-funct6 : (op : ArithmeticViOp) → arithmetic_vi_of (arithmetic_vi_funct6 op) ≡ Some op
unfolding key_in vector_table in_parts fixed span
arithmetic_vi_of-funct6 op = grind arith

pub arithmetic_vi_found : (funct6 : ℕ) (op : ArithmeticViOp) → arithmetic_vi_of funct6 ≡ Some op → arithmetic_vi_funct6 op ≡ funct6
arithmetic_vi_found funct6 op e = eqb-true _ funct6 (find_passes (λ op. arithmetic_vi_funct6 op == funct6) all_arithmetic_vis op e)

pub arithmetic_vi_is_not_merge : (op : ArithmeticViOp) → nat_eq (arithmetic_vi_funct6 op) 0b010111 ≡ false
unfolding key_in vector_table in_parts fixed span
arithmetic_vi_is_not_merge op = grind arith

-- ---- a shift by an amount in the word

pub shift_vi_funct6-lt : (op : ShiftViOp) → shift_vi_funct6 op < 2 ^ 6
unfolding key_in vector_table in_parts fixed span
shift_vi_funct6-lt op = grind arith

pub shift_vi_of-funct6 : (op : ShiftViOp) → shift_vi_of (shift_vi_funct6 op) ≡ Some op
unfolding key_in vector_table in_parts fixed span
shift_vi_of-funct6 op = grind arith

pub shift_vi_found : (funct6 : ℕ) (op : ShiftViOp) → shift_vi_of funct6 ≡ Some op → shift_vi_funct6 op ≡ funct6
shift_vi_found funct6 op e = eqb-true _ funct6 (find_passes (λ op. shift_vi_funct6 op == funct6) all_shift_vis op e)

pub shift_vi_is_not_merge : (op : ShiftViOp) → nat_eq (shift_vi_funct6 op) 0b010111 ≡ false
unfolding key_in vector_table in_parts fixed span
shift_vi_is_not_merge op = grind arith

-- ---- a comparison of two vector registers

pub compare_vv_funct6-lt : (op : CompareVvOp) → compare_vv_funct6 op < 2 ^ 6
unfolding key_in vector_table in_parts fixed span
compare_vv_funct6-lt op = grind arith

pub compare_vv_of-funct6 : (op : CompareVvOp) → compare_vv_of (compare_vv_funct6 op) ≡ Some op
unfolding key_in vector_table in_parts fixed span
compare_vv_of-funct6 op = grind arith

pub compare_vv_found : (funct6 : ℕ) (op : CompareVvOp) → compare_vv_of funct6 ≡ Some op → compare_vv_funct6 op ≡ funct6
compare_vv_found funct6 op e = eqb-true _ funct6 (find_passes (λ op. compare_vv_funct6 op == funct6) all_compare_vvs op e)

pub compare_vv_is_not_merge : (op : CompareVvOp) → nat_eq (compare_vv_funct6 op) 0b010111 ≡ false
unfolding key_in vector_table in_parts fixed span
compare_vv_is_not_merge op = grind arith

-- ---- a comparison with an integer register

pub compare_vx_funct6-lt : (op : CompareVxOp) → compare_vx_funct6 op < 2 ^ 6
unfolding key_in vector_table in_parts fixed span
compare_vx_funct6-lt op = grind arith

pub compare_vx_of-funct6 : (op : CompareVxOp) → compare_vx_of (compare_vx_funct6 op) ≡ Some op
unfolding key_in vector_table in_parts fixed span
compare_vx_of-funct6 op = grind arith

pub compare_vx_found : (funct6 : ℕ) (op : CompareVxOp) → compare_vx_of funct6 ≡ Some op → compare_vx_funct6 op ≡ funct6
compare_vx_found funct6 op e = eqb-true _ funct6 (find_passes (λ op. compare_vx_funct6 op == funct6) all_compare_vxs op e)

pub compare_vx_is_not_merge : (op : CompareVxOp) → nat_eq (compare_vx_funct6 op) 0b010111 ≡ false
unfolding key_in vector_table in_parts fixed span
compare_vx_is_not_merge op = grind arith

-- ---- a comparison with an immediate

pub compare_vi_funct6-lt : (op : CompareViOp) → compare_vi_funct6 op < 2 ^ 6
unfolding key_in vector_table in_parts fixed span
compare_vi_funct6-lt op = grind arith

pub compare_vi_of-funct6 : (op : CompareViOp) → compare_vi_of (compare_vi_funct6 op) ≡ Some op
unfolding key_in vector_table in_parts fixed span
compare_vi_of-funct6 op = grind arith

pub compare_vi_found : (funct6 : ℕ) (op : CompareViOp) → compare_vi_of funct6 ≡ Some op → compare_vi_funct6 op ≡ funct6
compare_vi_found funct6 op e = eqb-true _ funct6 (find_passes (λ op. compare_vi_funct6 op == funct6) all_compare_vis op e)

pub compare_vi_is_not_merge : (op : CompareViOp) → nat_eq (compare_vi_funct6 op) 0b010111 ≡ false
unfolding key_in vector_table in_parts fixed span
compare_vi_is_not_merge op = grind arith

-- ---- a multiplication or division

pub multiply_funct6-lt : (op : MultiplyOp) → multiply_funct6 op < 2 ^ 6
unfolding key_in vector_table in_parts fixed span
multiply_funct6-lt op = grind arith

pub multiply_of-funct6 : (op : MultiplyOp) → multiply_of (multiply_funct6 op) ≡ Some op
unfolding key_in vector_table in_parts fixed span
multiply_of-funct6 op = grind arith

pub multiply_found : (funct6 : ℕ) (op : MultiplyOp) → multiply_of funct6 ≡ Some op → multiply_funct6 op ≡ funct6
multiply_found funct6 op e = eqb-true _ funct6 (find_passes (λ op. multiply_funct6 op == funct6) all_multiplies op e)

pub multiply_is_not_scalar_move : (op : MultiplyOp) → nat_eq (multiply_funct6 op) 0b010000 ≡ false
unfolding key_in vector_table in_parts fixed span
multiply_is_not_scalar_move op = grind arith

pub multiply_is_not_numbers : (op : MultiplyOp) → nat_eq (multiply_funct6 op) 0b010100 ≡ false
unfolding key_in vector_table in_parts fixed span
multiply_is_not_numbers op = grind arith

pub multiply_is_not_extended : (op : MultiplyOp) → nat_eq (multiply_funct6 op) 0b010010 ≡ false
unfolding key_in vector_table in_parts fixed span
multiply_is_not_extended op = grind arith

-- ---- a reduction

pub reduction_funct6-lt : (op : ReductionOp) → reduction_funct6 op < 2 ^ 6
unfolding key_in vector_table in_parts fixed span
reduction_funct6-lt op = grind arith

pub reduction_of-funct6 : (op : ReductionOp) → reduction_of (reduction_funct6 op) ≡ Some op
unfolding key_in vector_table in_parts fixed span
reduction_of-funct6 op = grind arith

pub reduction_found : (funct6 : ℕ) (op : ReductionOp) → reduction_of funct6 ≡ Some op → reduction_funct6 op ≡ funct6
reduction_found funct6 op e = eqb-true _ funct6 (find_passes (λ op. reduction_funct6 op == funct6) all_reductions op e)

pub reduction_is_not_scalar_move : (op : ReductionOp) → nat_eq (reduction_funct6 op) 0b010000 ≡ false
unfolding key_in vector_table in_parts fixed span
reduction_is_not_scalar_move op = grind arith

pub reduction_is_not_numbers : (op : ReductionOp) → nat_eq (reduction_funct6 op) 0b010100 ≡ false
unfolding key_in vector_table in_parts fixed span
reduction_is_not_numbers op = grind arith

pub reduction_is_not_extended : (op : ReductionOp) → nat_eq (reduction_funct6 op) 0b010010 ≡ false
unfolding key_in vector_table in_parts fixed span
reduction_is_not_extended op = grind arith

-- ---- groups that are tried one after the other

pub compare_vv_is_no_arithmetic_vv : (op : CompareVvOp) → arithmetic_vv_of (compare_vv_funct6 op) ≡ None
unfolding key_in vector_table in_parts fixed span
compare_vv_is_no_arithmetic_vv op = grind arith

pub compare_vx_is_no_arithmetic_vx : (op : CompareVxOp) → arithmetic_vx_of (compare_vx_funct6 op) ≡ None
unfolding key_in vector_table in_parts fixed span
compare_vx_is_no_arithmetic_vx op = grind arith

pub shift_vi_is_no_arithmetic_vi : (op : ShiftViOp) → arithmetic_vi_of (shift_vi_funct6 op) ≡ None
unfolding key_in vector_table in_parts fixed span
shift_vi_is_no_arithmetic_vi op = grind arith

pub compare_vi_is_no_arithmetic_vi : (op : CompareViOp) → arithmetic_vi_of (compare_vi_funct6 op) ≡ None
unfolding key_in vector_table in_parts fixed span
compare_vi_is_no_arithmetic_vi op = grind arith

pub compare_vi_is_no_shift_vi : (op : CompareViOp) → shift_vi_of (compare_vi_funct6 op) ≡ None
unfolding key_in vector_table in_parts fixed span
compare_vi_is_no_shift_vi op = grind arith

pub multiply_is_no_reduction : (op : MultiplyOp) → reduction_of (multiply_funct6 op) ≡ None
unfolding key_in vector_table in_parts fixed span
multiply_is_no_reduction op = grind arith

-- ---- widths

pub width_funct3-lt : (width : ElementWidth) → width_funct3 width < 2 ^ 3
unfolding key_in vector_table in_parts fixed span
width_funct3-lt width = grind arith

pub width_of-funct3 : (width : ElementWidth) → width_of (width_funct3 width) ≡ Some width
unfolding key_in vector_table in_parts fixed span
width_of-funct3 width = grind arith

pub width_found : (funct3 : ℕ) (width : ElementWidth) → width_of funct3 ≡ Some width → width_funct3 width ≡ funct3
width_found funct3 width e = eqb-true _ funct3 (find_passes (λ width. width_funct3 width == funct3) all_widths width e)
