-- What vector operations make of words of 32 bits are words.
use Rattle.std.proofs.Common.{ℕ, ◌-◌, ◌*◌, ◌%◌, ◌^◌, ◌<◌, Bool, true, false, arith}
use Rattle.std.specs.Prelude.{◌/◌, if◌then◌else◌, ℤ, pos, negsuc, bit_and}
use Rattle.std.proofs.lemmas.Nat.{or_of_32, xor_of_32, and_le_l}
use Rattle.lanes.specs.Words as word
use Rattle.rv_insn.specs.declared.vector_operations.ArithmeticVvOp.{ArithmeticVvOp}
use Rattle.rv_insn.specs.declared.vector_operations.ArithmeticVvOp.TheVariants as vvs
use Rattle.rv_insn.specs.declared.vector_operations.ArithmeticVxOp.{ArithmeticVxOp}
use Rattle.rv_insn.specs.declared.vector_operations.ArithmeticVxOp.TheVariants as vxs
use Rattle.rv_insn.specs.declared.vector_operations.ArithmeticViOp.{ArithmeticViOp}
use Rattle.rv_insn.specs.declared.vector_operations.ArithmeticViOp.TheVariants as vis
use Rattle.rv_insn.specs.declared.vector_operations.ShiftViOp.{ShiftViOp}
use Rattle.rv_insn.specs.declared.vector_operations.ShiftViOp.TheVariants as shifts
use Rattle.rv_insn.specs.declared.vector_operations.MultiplyOp.{MultiplyOp}
use Rattle.rv_insn.specs.declared.vector_operations.MultiplyOp.TheVariants as multiplies
use Rattle.vector_unit.specs.Operations.{arithmetic_vv, arithmetic_vx, arithmetic_vi, shift_vi, multiply}

pub wrapped-below : (z : ℤ) → word.wrapped 32 z < 2 ^ 32
wrapped-below (pos n) = omega arith
wrapped-below (negsuc n) = omega arith

pub rest-below : (n : ℕ) → n % 2 ^ 32 < 2 ^ 32
rest-below n = omega arith

pub one-of : (t : Bool) (a b : ℕ) → a < 2 ^ 32 → b < 2 ^ 32 → (if t then a else b) < 2 ^ 32
one-of true a b l k = l
one-of false a b l k = k

and-below : (a b : ℕ) → a < 2 ^ 32 → bit_and a b < 2 ^ 32
and-below a b l = let q = and_le_l a b in omega (arith, l, q)

part-below : (a b : ℕ) → a < 2 ^ 32 → a / b < 2 ^ 32
part-below a b l = omega arith

left-below : (a b : ℕ) → a < 2 ^ 32 → a % b < 2 ^ 32
left-below a b l = omega arith

high-below : (a b : ℕ) → a < 2 ^ 32 → b < 2 ^ 32 → a * b / 2 ^ 32 < 2 ^ 32
high-below a b l k = grind arith

most-below : 2 ^ 32 - 1 < 2 ^ 32
most-below = omega arith

pub vv-below : (o : ArithmeticVvOp) (a b : ℕ) → a < 2 ^ 32 → b < 2 ^ 32 → arithmetic_vv o 32 a b < 2 ^ 32
vv-below vvs.Vadd a b l k = rest-below _
vv-below vvs.Vsub a b l k = rest-below _
vv-below vvs.Vminu a b l k = one-of _ b a k l
vv-below vvs.Vmin a b l k = one-of _ b a k l
vv-below vvs.Vmaxu a b l k = one-of _ b a k l
vv-below vvs.Vmax a b l k = one-of _ b a k l
vv-below vvs.Vand a b l k = and-below a b l
vv-below vvs.Vor a b l k = or_of_32 a b l k
vv-below vvs.Vxor a b l k = xor_of_32 a b l k
vv-below vvs.Vsll a b l k = rest-below _
vv-below vvs.Vsrl a b l k = part-below a _ l
vv-below vvs.Vsra a b l k = wrapped-below _

pub vx-below : (o : ArithmeticVxOp) (a b : ℕ) → a < 2 ^ 32 → b < 2 ^ 32 → arithmetic_vx o 32 a b < 2 ^ 32
vx-below vxs.Vadd a b l k = rest-below _
vx-below vxs.Vsub a b l k = rest-below _
vx-below vxs.Vrsub a b l k = rest-below _
vx-below vxs.Vminu a b l k = one-of _ b a k l
vx-below vxs.Vmin a b l k = one-of _ b a k l
vx-below vxs.Vmaxu a b l k = one-of _ b a k l
vx-below vxs.Vmax a b l k = one-of _ b a k l
vx-below vxs.Vand a b l k = and-below a b l
vx-below vxs.Vor a b l k = or_of_32 a b l k
vx-below vxs.Vxor a b l k = xor_of_32 a b l k
vx-below vxs.Vsll a b l k = rest-below _
vx-below vxs.Vsrl a b l k = part-below a _ l
vx-below vxs.Vsra a b l k = wrapped-below _

pub vi-below : (o : ArithmeticViOp) (a b : ℕ) → a < 2 ^ 32 → b < 2 ^ 32 → arithmetic_vi o 32 a b < 2 ^ 32
vi-below vis.Vadd a b l k = rest-below _
vi-below vis.Vrsub a b l k = rest-below _
vi-below vis.Vand a b l k = and-below a b l
vi-below vis.Vor a b l k = or_of_32 a b l k
vi-below vis.Vxor a b l k = xor_of_32 a b l k

pub shift-below : (o : ShiftViOp) (a b : ℕ) → a < 2 ^ 32 → shift_vi o 32 a b < 2 ^ 32
shift-below shifts.Vsll a b l = rest-below _
shift-below shifts.Vsrl a b l = part-below a _ l
shift-below shifts.Vsra a b l = wrapped-below _

pub multiply-below : (o : MultiplyOp) (a b : ℕ) → a < 2 ^ 32 → b < 2 ^ 32 → multiply o 32 a b < 2 ^ 32
multiply-below multiplies.Vdivu a b l k = one-of _ (2 ^ 32 - 1) (a / b) most-below (part-below a b l)
multiply-below multiplies.Vdiv a b l k = one-of _ (2 ^ 32 - 1) _ most-below (wrapped-below _)
multiply-below multiplies.Vremu a b l k = one-of _ a (a % b) l (left-below a b l)
multiply-below multiplies.Vrem a b l k = one-of _ a _ l (wrapped-below _)
multiply-below multiplies.Vmulhu a b l k = high-below a b l k
multiply-below multiplies.Vmul a b l k = rest-below _
multiply-below multiplies.Vmulhsu a b l k = wrapped-below _
multiply-below multiplies.Vmulh a b l k = wrapped-below _
