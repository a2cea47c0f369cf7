-- What each vector operation makes of two elements of w bits: a is that of vs2, b the other operand's. A reduction makes it of
-- what it has so far and the next element of vs2.
-- RISC-V Vector Extension 1.0, chapters 11 "Vector Integer Arithmetic Instructions" and 14 "Vector Reduction Operations".
use Rattle.std.specs.Prelude.{ℕ, Bool}
use Rattle.lanes.specs.Words as word
use Rattle.rv_insn.specs.declared.vector_operations.ArithmeticVvOp.{ArithmeticVvOp}
use Rattle.rv_insn.specs.declared.vector_operations.ArithmeticVvOp.TheVariants as arithmetic_vvs
use Rattle.rv_insn.specs.declared.vector_operations.ArithmeticVxOp.{ArithmeticVxOp}
use Rattle.rv_insn.specs.declared.vector_operations.ArithmeticVxOp.TheVariants as arithmetic_vxs
use Rattle.rv_insn.specs.declared.vector_operations.ArithmeticViOp.{ArithmeticViOp}
use Rattle.rv_insn.specs.declared.vector_operations.ArithmeticViOp.TheVariants as arithmetic_vis
use Rattle.rv_insn.specs.declared.vector_operations.ShiftViOp.{ShiftViOp}
use Rattle.rv_insn.specs.declared.vector_operations.ShiftViOp.TheVariants as shift_vis
use Rattle.rv_insn.specs.declared.vector_operations.CompareVvOp.{CompareVvOp}
use Rattle.rv_insn.specs.declared.vector_operations.CompareVvOp.TheVariants as compare_vvs
use Rattle.rv_insn.specs.declared.vector_operations.CompareVxOp.{CompareVxOp}
use Rattle.rv_insn.specs.declared.vector_operations.CompareVxOp.TheVariants as compare_vxs
use Rattle.rv_insn.specs.declared.vector_operations.CompareViOp.{CompareViOp}
use Rattle.rv_insn.specs.declared.vector_operations.CompareViOp.TheVariants as compare_vis
use Rattle.rv_insn.specs.declared.vector_operations.MultiplyOp.{MultiplyOp}
use Rattle.rv_insn.specs.declared.vector_operations.MultiplyOp.TheVariants as multiplies
use Rattle.rv_insn.specs.declared.vector_operations.ReductionOp.{ReductionOp}
use Rattle.rv_insn.specs.declared.vector_operations.ReductionOp.TheVariants as reductions

abbrev pub arithmetic_vv : ArithmeticVvOp → ℕ → ℕ → ℕ → ℕ
arithmetic_vv arithmetic_vvs.Vadd w a b = word.add w a b
arithmetic_vv arithmetic_vvs.Vsub w a b = word.sub w a b
arithmetic_vv arithmetic_vvs.Vminu w a b = word.min_unsigned w a b
arithmetic_vv arithmetic_vvs.Vmin w a b = word.min_signed w a b
arithmetic_vv arithmetic_vvs.Vmaxu w a b = word.max_unsigned w a b
arithmetic_vv arithmetic_vvs.Vmax w a b = word.max_signed w a b
arithmetic_vv arithmetic_vvs.Vand w a b = word.and w a b
arithmetic_vv arithmetic_vvs.Vor w a b = word.or w a b
arithmetic_vv arithmetic_vvs.Vxor w a b = word.xor w a b
arithmetic_vv arithmetic_vvs.Vsll w a b = word.shift_left w a b
arithmetic_vv arithmetic_vvs.Vsrl w a b = word.shift_right_logical w a b
arithmetic_vv arithmetic_vvs.Vsra w a b = word.shift_right_arithmetic w a b

abbrev pub arithmetic_vx : ArithmeticVxOp → ℕ → ℕ → ℕ → ℕ
arithmetic_vx arithmetic_vxs.Vadd w a b = word.add w a b
arithmetic_vx arithmetic_vxs.Vsub w a b = word.sub w a b
arithmetic_vx arithmetic_vxs.Vrsub w a b = word.sub w b a
arithmetic_vx arithmetic_vxs.Vminu w a b = word.min_unsigned w a b
arithmetic_vx arithmetic_vxs.Vmin w a b = word.min_signed w a b
arithmetic_vx arithmetic_vxs.Vmaxu w a b = word.max_unsigned w a b
arithmetic_vx arithmetic_vxs.Vmax w a b = word.max_signed w a b
arithmetic_vx arithmetic_vxs.Vand w a b = word.and w a b
arithmetic_vx arithmetic_vxs.Vor w a b = word.or w a b
arithmetic_vx arithmetic_vxs.Vxor w a b = word.xor w a b
arithmetic_vx arithmetic_vxs.Vsll w a b = word.shift_left w a b
arithmetic_vx arithmetic_vxs.Vsrl w a b = word.shift_right_logical w a b
arithmetic_vx arithmetic_vxs.Vsra w a b = word.shift_right_arithmetic w a b

abbrev pub arithmetic_vi : ArithmeticViOp → ℕ → ℕ → ℕ → ℕ
arithmetic_vi arithmetic_vis.Vadd w a b = word.add w a b
arithmetic_vi arithmetic_vis.Vrsub w a b = word.sub w b a
arithmetic_vi arithmetic_vis.Vand w a b = word.and w a b
arithmetic_vi arithmetic_vis.Vor w a b = word.or w a b
arithmetic_vi arithmetic_vis.Vxor w a b = word.xor w a b

abbrev pub shift_vi : ShiftViOp → ℕ → ℕ → ℕ → ℕ
shift_vi shift_vis.Vsll w a b = word.shift_left w a b
shift_vi shift_vis.Vsrl w a b = word.shift_right_logical w a b
shift_vi shift_vis.Vsra w a b = word.shift_right_arithmetic w a b

abbrev pub compare_vv : CompareVvOp → ℕ → ℕ → ℕ → Bool
compare_vv compare_vvs.Vmseq w a b = word.equal w a b
compare_vv compare_vvs.Vmsne w a b = word.not_equal w a b
compare_vv compare_vvs.Vmsltu w a b = word.less_unsigned w a b
compare_vv compare_vvs.Vmslt w a b = word.less_signed w a b
compare_vv compare_vvs.Vmsleu w a b = word.less_or_equal_unsigned w a b
compare_vv compare_vvs.Vmsle w a b = word.less_or_equal_signed w a b

abbrev pub compare_vx : CompareVxOp → ℕ → ℕ → ℕ → Bool
compare_vx compare_vxs.Vmseq w a b = word.equal w a b
compare_vx compare_vxs.Vmsne w a b = word.not_equal w a b
compare_vx compare_vxs.Vmsltu w a b = word.less_unsigned w a b
compare_vx compare_vxs.Vmslt w a b = word.less_signed w a b
compare_vx compare_vxs.Vmsleu w a b = word.less_or_equal_unsigned w a b
compare_vx compare_vxs.Vmsle w a b = word.less_or_equal_signed w a b
compare_vx compare_vxs.Vmsgtu w a b = word.less_unsigned w b a
compare_vx compare_vxs.Vmsgt w a b = word.less_signed w b a

abbrev pub compare_vi : CompareViOp → ℕ → ℕ → ℕ → Bool
compare_vi compare_vis.Vmseq w a b = word.equal w a b
compare_vi compare_vis.Vmsne w a b = word.not_equal w a b
compare_vi compare_vis.Vmsleu w a b = word.less_or_equal_unsigned w a b
compare_vi compare_vis.Vmsle w a b = word.less_or_equal_signed w a b
compare_vi compare_vis.Vmsgtu w a b = word.less_unsigned w b a
compare_vi compare_vis.Vmsgt w a b = word.less_signed w b a

abbrev pub multiply : MultiplyOp → ℕ → ℕ → ℕ → ℕ
multiply multiplies.Vdivu w a b = word.divide_unsigned w a b
multiply multiplies.Vdiv w a b = word.divide_signed w a b
multiply multiplies.Vremu w a b = word.remainder_unsigned w a b
multiply multiplies.Vrem w a b = word.remainder_signed w a b
multiply multiplies.Vmulhu w a b = word.multiply_high_unsigned w a b
multiply multiplies.Vmul w a b = word.multiply w a b
multiply multiplies.Vmulhsu w a b = word.multiply_high_signed_unsigned w a b
multiply multiplies.Vmulh w a b = word.multiply_high_signed w a b

abbrev pub reduction : ReductionOp → ℕ → ℕ → ℕ → ℕ
reduction reductions.Vredsum w a b = word.add w a b
reduction reductions.Vredminu w a b = word.min_unsigned w a b
reduction reductions.Vredmin w a b = word.min_signed w a b
reduction reductions.Vredmaxu w a b = word.max_unsigned w a b
reduction reductions.Vredmax w a b = word.max_signed w a b
