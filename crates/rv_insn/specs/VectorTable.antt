-- The rows of the vector instructions.
-- RISC-V Vector Extension 1.0: the formats of chapters 5 "Vector Instruction Formats" and 6 "Configuration-Setting
-- Instructions", of sections 7.1 "Vector Load/Store Instruction Encoding" and 10.1 "Vector Arithmetic Instruction
-- encoding"; the numbers of the rows are those of chapter 19 "Vector Instruction Listing". Which rows there are is
-- this project's own.
use Rattle.std.specs.Prelude.{ℕ, List, [], ◌∷◌, codes, ℤ, pos, ◌++◌}
use Rattle.rv_insn.specs.Encoding.{span, in_parts, Field, Row, bit_of, mode_of, offset_fields}
use Rattle.rv_insn.specs.Encoding.Field.{Unsigned, Signed}
use Rattle.rv_insn.specs.declared.vector_instructions.VectorInsn.{VectorInsn}
use Rattle.rv_insn.specs.declared.vector_instructions.VectorInsn.TheVariants.{ArithmeticVv, ArithmeticVx, ArithmeticVi, ShiftVi, CompareVv, CompareVx}
use Rattle.rv_insn.specs.declared.vector_instructions.VectorInsn.TheVariants.{CompareVi, MultiplyVv, MultiplyVx, Reduce, MergeVv, MergeVx, MergeVi, MoveVv}
use Rattle.rv_insn.specs.declared.vector_instructions.VectorInsn.TheVariants.{MoveVx, MoveVi, MoveToScalar, MoveFromScalar, ElementNumbers, ExtendBytes}
use Rattle.rv_insn.specs.declared.vector_instructions.VectorInsn.TheVariants.{Vsetvli, Vsetivli, Vsetvl, LoadElements, StoreElements}
use Rattle.rv_insn.specs.declared.vector_operations.ArithmeticVvOp.{ArithmeticVvOp}
use Rattle.rv_insn.specs.declared.vector_operations.ArithmeticVvOp.TheVariants as arithmetic_vvs
use Rattle.rv_insn.specs.declared.vector_operations.ArithmeticVxOp.{ArithmeticVxOp}
use Rattle.rv_insn.specs.declared.vector_operations.ArithmeticVxOp.TheVariants as arithmetic_vxs
use Rattle.rv_insn.specs.declared.vector_operations.ArithmeticViOp.{ArithmeticViOp}
use Rattle.rv_insn.specs.declared.vector_operations.ArithmeticViOp.TheVariants as arithmetic_vis
use Rattle.rv_insn.specs.declared.vector_operations.ShiftViOp.{ShiftViOp}
use Rattle.rv_insn.specs.declared.vector_operations.ShiftViOp.TheVariants as shift_vis
use Rattle.rv_insn.specs.declared.vector_operations.CompareVvOp.{CompareVvOp}
use Rattle.rv_insn.specs.declared.vector_operations.CompareVvOp.TheVariants as compare_vvs
use Rattle.rv_insn.specs.declared.vector_operations.CompareVxOp.{CompareVxOp}
use Rattle.rv_insn.specs.declared.vector_operations.CompareVxOp.TheVariants as compare_vxs
use Rattle.rv_insn.specs.declared.vector_operations.CompareViOp.{CompareViOp}
use Rattle.rv_insn.specs.declared.vector_operations.CompareViOp.TheVariants as compare_vis
use Rattle.rv_insn.specs.declared.vector_operations.MultiplyOp.{MultiplyOp}
use Rattle.rv_insn.specs.declared.vector_operations.MultiplyOp.TheVariants as multiplies
use Rattle.rv_insn.specs.declared.vector_operations.ReductionOp.{ReductionOp}
use Rattle.rv_insn.specs.declared.vector_operations.ReductionOp.TheVariants as reductions
use Rattle.rv_insn.specs.declared.vector_operations.ElementWidth.{ElementWidth}
use Rattle.rv_insn.specs.declared.vector_operations.ElementWidth.TheVariants as widths
use Rattle.rv_insn.specs.declared.vector_operations.AddressMode.{AddressMode}
use Rattle.rv_insn.specs.declared.vector_operations.AddressMode.TheVariants as modes

-- ---- fields: a vector load has its destination, and a store what it stores, at the places of vd

abbrev pub vd : Field
vd = Unsigned (span 7 5)

abbrev pub rd : Field
rd = Unsigned (span 7 5)

abbrev pub vs1 : Field
vs1 = Unsigned (span 15 5)

abbrev pub rs1 : Field
rs1 = Unsigned (span 15 5)

abbrev pub vs2 : Field
vs2 = Unsigned (span 20 5)

abbrev pub rs2 : Field
rs2 = Unsigned (span 20 5)

-- 1: all elements; 0: those whose bit in v0 is 1
abbrev pub vm : Field
vm = Unsigned (span 25 1)

-- a signed immediate, and one that is not: a shift's amount, or the elements that vsetivli asks for
abbrev pub immediate : Field
immediate = Signed (span 15 5)

abbrev pub amount : Field
amount = Unsigned (span 15 5)

abbrev pub vtype11 : Field
vtype11 = Unsigned (span 20 11)

abbrev pub vtype10 : Field
vtype10 = Unsigned (span 20 10)

-- ---- formats: opcode in 6..0, funct3 or the width in 14..12, funct6 in 31..26

-- a row by the numbers at spans of positions
abbrev pub v_row : List ℕ → List (ℕ × ℕ × ℕ) → List Field → Row
v_row name parts fields = record { name = name; pairs = in_parts parts; fields = fields }

abbrev pub opivv_type : List ℕ → ℕ → Row
opivv_type name funct6 = v_row name ((0, 7, 0b1010111) ∷ (12, 3, 0b000) ∷ (26, 6, funct6) ∷ []) (vd ∷ vs2 ∷ vs1 ∷ vm ∷ [])

abbrev pub opmvv_type : List ℕ → ℕ → Row
opmvv_type name funct6 = v_row name ((0, 7, 0b1010111) ∷ (12, 3, 0b010) ∷ (26, 6, funct6) ∷ []) (vd ∷ vs2 ∷ vs1 ∷ vm ∷ [])

abbrev pub opivi_type : List ℕ → ℕ → Row
opivi_type name funct6 = v_row name ((0, 7, 0b1010111) ∷ (12, 3, 0b011) ∷ (26, 6, funct6) ∷ []) (vd ∷ vs2 ∷ immediate ∷ vm ∷ [])

abbrev pub opivi_shift_type : List ℕ → ℕ → Row
opivi_shift_type name funct6 = v_row name ((0, 7, 0b1010111) ∷ (12, 3, 0b011) ∷ (26, 6, funct6) ∷ []) (vd ∷ vs2 ∷ amount ∷ vm ∷ [])

abbrev pub opivx_type : List ℕ → ℕ → Row
opivx_type name funct6 = v_row name ((0, 7, 0b1010111) ∷ (12, 3, 0b100) ∷ (26, 6, funct6) ∷ []) (vd ∷ vs2 ∷ rs1 ∷ vm ∷ [])

abbrev pub opmvx_type : List ℕ → ℕ → Row
opmvx_type name funct6 = v_row name ((0, 7, 0b1010111) ∷ (12, 3, 0b110) ∷ (26, 6, funct6) ∷ []) (vd ∷ vs2 ∷ rs1 ∷ vm ∷ [])

abbrev pub merge_vv_type : List ℕ → Row
merge_vv_type name = v_row name ((0, 7, 0b1010111) ∷ (12, 3, 0b000) ∷ (26, 6, 0b010111) ∷ (25, 1, 0) ∷ []) (vd ∷ vs2 ∷ vs1 ∷ [])

abbrev pub merge_vi_type : List ℕ → Row
merge_vi_type name = v_row name ((0, 7, 0b1010111) ∷ (12, 3, 0b011) ∷ (26, 6, 0b010111) ∷ (25, 1, 0) ∷ []) (vd ∷ vs2 ∷ immediate ∷ [])

abbrev pub merge_vx_type : List ℕ → Row
merge_vx_type name = v_row name ((0, 7, 0b1010111) ∷ (12, 3, 0b100) ∷ (26, 6, 0b010111) ∷ (25, 1, 0) ∷ []) (vd ∷ vs2 ∷ rs1 ∷ [])

abbrev pub move_vv_type : List ℕ → Row
move_vv_type name = v_row name ((0, 7, 0b1010111) ∷ (12, 3, 0b000) ∷ (26, 6, 0b010111) ∷ (25, 1, 1) ∷ (20, 5, 0) ∷ []) (vd ∷ vs1 ∷ [])

abbrev pub move_vi_type : List ℕ → Row
move_vi_type name = v_row name ((0, 7, 0b1010111) ∷ (12, 3, 0b011) ∷ (26, 6, 0b010111) ∷ (25, 1, 1) ∷ (20, 5, 0) ∷ []) (vd ∷ immediate ∷ [])

abbrev pub move_vx_type : List ℕ → Row
move_vx_type name = v_row name ((0, 7, 0b1010111) ∷ (12, 3, 0b100) ∷ (26, 6, 0b010111) ∷ (25, 1, 1) ∷ (20, 5, 0) ∷ []) (vd ∷ rs1 ∷ [])

abbrev pub to_scalar_type : List ℕ → Row
to_scalar_type name = v_row name ((0, 7, 0b1010111) ∷ (12, 3, 0b010) ∷ (26, 6, 0b010000) ∷ (25, 1, 1) ∷ (15, 5, 0) ∷ []) (rd ∷ vs2 ∷ [])

abbrev pub from_scalar_type : List ℕ → Row
from_scalar_type name = v_row name ((0, 7, 0b1010111) ∷ (12, 3, 0b110) ∷ (26, 6, 0b010000) ∷ (25, 1, 1) ∷ (20, 5, 0) ∷ []) (vd ∷ rs1 ∷ [])

abbrev pub numbers_type : List ℕ → Row
numbers_type name = v_row name ((0, 7, 0b1010111) ∷ (12, 3, 0b010) ∷ (26, 6, 0b010100) ∷ (15, 5, 0b10001) ∷ (20, 5, 0) ∷ []) (vd ∷ vm ∷ [])

abbrev pub vsetvli_type : List ℕ → Row
vsetvli_type name = v_row name ((0, 7, 0b1010111) ∷ (12, 3, 0b111) ∷ (31, 1, 0) ∷ []) (rd ∷ rs1 ∷ vtype11 ∷ [])

abbrev pub extend_type : List ℕ → Row
extend_type name = v_row name ((0, 7, 0b1010111) ∷ (12, 3, 0b010) ∷ (26, 6, 0b010010) ∷ (15, 5, 0b00100) ∷ []) (vd ∷ vs2 ∷ vm ∷ [])

abbrev pub vsetivli_type : List ℕ → Row
vsetivli_type name = v_row name ((0, 7, 0b1010111) ∷ (12, 3, 0b111) ∷ (30, 2, 0b11) ∷ []) (rd ∷ amount ∷ vtype10 ∷ [])

abbrev pub vsetvl_type : List ℕ → Row
vsetvl_type name = v_row name ((0, 7, 0b1010111) ∷ (12, 3, 0b111) ∷ (25, 7, 0b1000000) ∷ []) (rd ∷ rs1 ∷ rs2 ∷ [])

abbrev pub unit_type : List ℕ → ℕ → ℕ → Row
unit_type name opcode width = v_row name ((0, 7, opcode) ∷ (12, 3, width) ∷ (28, 4, 0b0000) ∷ (26, 2, 0b00) ∷ (20, 5, 0) ∷ []) (vd ∷ rs1 ∷ vm ∷ [])

abbrev pub strided_type : List ℕ → ℕ → ℕ → Row
strided_type name opcode width = v_row name ((0, 7, opcode) ∷ (12, 3, width) ∷ (28, 4, 0b0000) ∷ (26, 2, 0b10) ∷ []) (vd ∷ rs1 ∷ rs2 ∷ vm ∷ [])

abbrev pub indexed_type : List ℕ → ℕ → ℕ → Row
indexed_type name opcode width = v_row name ((0, 7, opcode) ∷ (12, 3, width) ∷ (28, 4, 0b0000) ∷ (26, 2, 0b01) ∷ []) (vd ∷ rs1 ∷ vs2 ∷ vm ∷ [])

-- ---- the rows

unfoldable pub vector_table : List Row
vector_table =
    opivv_type (codes "vadd.vv") 0b000000 ∷
    opivv_type (codes "vsub.vv") 0b000010 ∷
    opivv_type (codes "vminu.vv") 0b000100 ∷
    opivv_type (codes "vmin.vv") 0b000101 ∷
    opivv_type (codes "vmaxu.vv") 0b000110 ∷
    opivv_type (codes "vmax.vv") 0b000111 ∷
    opivv_type (codes "vand.vv") 0b001001 ∷
    opivv_type (codes "vor.vv") 0b001010 ∷
    opivv_type (codes "vxor.vv") 0b001011 ∷
    opivv_type (codes "vsll.vv") 0b100101 ∷
    opivv_type (codes "vsrl.vv") 0b101000 ∷
    opivv_type (codes "vsra.vv") 0b101001 ∷
    opivx_type (codes "vadd.vx") 0b000000 ∷
    opivx_type (codes "vsub.vx") 0b000010 ∷
    opivx_type (codes "vrsub.vx") 0b000011 ∷
    opivx_type (codes "vminu.vx") 0b000100 ∷
    opivx_type (codes "vmin.vx") 0b000101 ∷
    opivx_type (codes "vmaxu.vx") 0b000110 ∷
    opivx_type (codes "vmax.vx") 0b000111 ∷
    opivx_type (codes "vand.vx") 0b001001 ∷
    opivx_type (codes "vor.vx") 0b001010 ∷
    opivx_type (codes "vxor.vx") 0b001011 ∷
    opivx_type (codes "vsll.vx") 0b100101 ∷
    opivx_type (codes "vsrl.vx") 0b101000 ∷
    opivx_type (codes "vsra.vx") 0b101001 ∷
    opivi_type (codes "vadd.vi") 0b000000 ∷
    opivi_type (codes "vrsub.vi") 0b000011 ∷
    opivi_type (codes "vand.vi") 0b001001 ∷
    opivi_type (codes "vor.vi") 0b001010 ∷
    opivi_type (codes "vxor.vi") 0b001011 ∷
    opivi_shift_type (codes "vsll.vi") 0b100101 ∷
    opivi_shift_type (codes "vsrl.vi") 0b101000 ∷
    opivi_shift_type (codes "vsra.vi") 0b101001 ∷
    opivv_type (codes "vmseq.vv") 0b011000 ∷
    opivv_type (codes "vmsne.vv") 0b011001 ∷
    opivv_type (codes "vmsltu.vv") 0b011010 ∷
    opivv_type (codes "vmslt.vv") 0b011011 ∷
    opivv_type (codes "vmsleu.vv") 0b011100 ∷
    opivv_type (codes "vmsle.vv") 0b011101 ∷
    opivx_type (codes "vmseq.vx") 0b011000 ∷
    opivx_type (codes "vmsne.vx") 0b011001 ∷
    opivx_type (codes "vmsltu.vx") 0b011010 ∷
    opivx_type (codes "vmslt.vx") 0b011011 ∷
    opivx_type (codes "vmsleu.vx") 0b011100 ∷
    opivx_type (codes "vmsle.vx") 0b011101 ∷
    opivx_type (codes "vmsgtu.vx") 0b011110 ∷
    opivx_type (codes "vmsgt.vx") 0b011111 ∷
    opivi_type (codes "vmseq.vi") 0b011000 ∷
    opivi_type (codes "vmsne.vi") 0b011001 ∷
    opivi_type (codes "vmsleu.vi") 0b011100 ∷
    opivi_type (codes "vmsle.vi") 0b011101 ∷
    opivi_type (codes "vmsgtu.vi") 0b011110 ∷
    opivi_type (codes "vmsgt.vi") 0b011111 ∷
    opmvv_type (codes "vdivu.vv") 0b100000 ∷
    opmvv_type (codes "vdiv.vv") 0b100001 ∷
    opmvv_type (codes "vremu.vv") 0b100010 ∷
    opmvv_type (codes "vrem.vv") 0b100011 ∷
    opmvv_type (codes "vmulhu.vv") 0b100100 ∷
    opmvv_type (codes "vmul.vv") 0b100101 ∷
    opmvv_type (codes "vmulhsu.vv") 0b100110 ∷
    opmvv_type (codes "vmulh.vv") 0b100111 ∷
    opmvx_type (codes "vdivu.vx") 0b100000 ∷
    opmvx_type (codes "vdiv.vx") 0b100001 ∷
    opmvx_type (codes "vremu.vx") 0b100010 ∷
    opmvx_type (codes "vrem.vx") 0b100011 ∷
    opmvx_type (codes "vmulhu.vx") 0b100100 ∷
    opmvx_type (codes "vmul.vx") 0b100101 ∷
    opmvx_type (codes "vmulhsu.vx") 0b100110 ∷
    opmvx_type (codes "vmulh.vx") 0b100111 ∷
    opmvv_type (codes "vredsum.vs") 0b000000 ∷
    opmvv_type (codes "vredminu.vs") 0b000100 ∷
    opmvv_type (codes "vredmin.vs") 0b000101 ∷
    opmvv_type (codes "vredmaxu.vs") 0b000110 ∷
    opmvv_type (codes "vredmax.vs") 0b000111 ∷
    merge_vv_type (codes "vmerge.vvm") ∷
    merge_vx_type (codes "vmerge.vxm") ∷
    merge_vi_type (codes "vmerge.vim") ∷
    move_vv_type (codes "vmv.v.v") ∷
    move_vx_type (codes "vmv.v.x") ∷
    move_vi_type (codes "vmv.v.i") ∷
    to_scalar_type (codes "vmv.x.s") ∷
    from_scalar_type (codes "vmv.s.x") ∷
    numbers_type (codes "vid.v") ∷
    extend_type (codes "vzext.vf4") ∷
    vsetvli_type (codes "vsetvli") ∷
    vsetivli_type (codes "vsetivli") ∷
    vsetvl_type (codes "vsetvl") ∷
    unit_type (codes "vle8.v") 0b0000111 0b000 ∷
    unit_type (codes "vle16.v") 0b0000111 0b101 ∷
    unit_type (codes "vle32.v") 0b0000111 0b110 ∷
    strided_type (codes "vlse8.v") 0b0000111 0b000 ∷
    strided_type (codes "vlse16.v") 0b0000111 0b101 ∷
    strided_type (codes "vlse32.v") 0b0000111 0b110 ∷
    indexed_type (codes "vluxei8.v") 0b0000111 0b000 ∷
    indexed_type (codes "vluxei16.v") 0b0000111 0b101 ∷
    indexed_type (codes "vluxei32.v") 0b0000111 0b110 ∷
    unit_type (codes "vse8.v") 0b0100111 0b000 ∷
    unit_type (codes "vse16.v") 0b0100111 0b101 ∷
    unit_type (codes "vse32.v") 0b0100111 0b110 ∷
    strided_type (codes "vsse8.v") 0b0100111 0b000 ∷
    strided_type (codes "vsse16.v") 0b0100111 0b101 ∷
    strided_type (codes "vsse32.v") 0b0100111 0b110 ∷
    indexed_type (codes "vsuxei8.v") 0b0100111 0b000 ∷
    indexed_type (codes "vsuxei16.v") 0b0100111 0b101 ∷
    indexed_type (codes "vsuxei32.v") 0b0100111 0b110 ∷
    []

-- ---- names

abbrev pub arithmetic_vv_name : ArithmeticVvOp → List ℕ
arithmetic_vv_name arithmetic_vvs.Vadd = codes "vadd.vv"
arithmetic_vv_name arithmetic_vvs.Vsub = codes "vsub.vv"
arithmetic_vv_name arithmetic_vvs.Vminu = codes "vminu.vv"
arithmetic_vv_name arithmetic_vvs.Vmin = codes "vmin.vv"
arithmetic_vv_name arithmetic_vvs.Vmaxu = codes "vmaxu.vv"
arithmetic_vv_name arithmetic_vvs.Vmax = codes "vmax.vv"
arithmetic_vv_name arithmetic_vvs.Vand = codes "vand.vv"
arithmetic_vv_name arithmetic_vvs.Vor = codes "vor.vv"
arithmetic_vv_name arithmetic_vvs.Vxor = codes "vxor.vv"
arithmetic_vv_name arithmetic_vvs.Vsll = codes "vsll.vv"
arithmetic_vv_name arithmetic_vvs.Vsrl = codes "vsrl.vv"
arithmetic_vv_name arithmetic_vvs.Vsra = codes "vsra.vv"

abbrev pub arithmetic_vx_name : ArithmeticVxOp → List ℕ
arithmetic_vx_name arithmetic_vxs.Vadd = codes "vadd.vx"
arithmetic_vx_name arithmetic_vxs.Vsub = codes "vsub.vx"
arithmetic_vx_name arithmetic_vxs.Vrsub = codes "vrsub.vx"
arithmetic_vx_name arithmetic_vxs.Vminu = codes "vminu.vx"
arithmetic_vx_name arithmetic_vxs.Vmin = codes "vmin.vx"
arithmetic_vx_name arithmetic_vxs.Vmaxu = codes "vmaxu.vx"
arithmetic_vx_name arithmetic_vxs.Vmax = codes "vmax.vx"
arithmetic_vx_name arithmetic_vxs.Vand = codes "vand.vx"
arithmetic_vx_name arithmetic_vxs.Vor = codes "vor.vx"
arithmetic_vx_name arithmetic_vxs.Vxor = codes "vxor.vx"
arithmetic_vx_name arithmetic_vxs.Vsll = codes "vsll.vx"
arithmetic_vx_name arithmetic_vxs.Vsrl = codes "vsrl.vx"
arithmetic_vx_name arithmetic_vxs.Vsra = codes "vsra.vx"

abbrev pub arithmetic_vi_name : ArithmeticViOp → List ℕ
arithmetic_vi_name arithmetic_vis.Vadd = codes "vadd.vi"
arithmetic_vi_name arithmetic_vis.Vrsub = codes "vrsub.vi"
arithmetic_vi_name arithmetic_vis.Vand = codes "vand.vi"
arithmetic_vi_name arithmetic_vis.Vor = codes "vor.vi"
arithmetic_vi_name arithmetic_vis.Vxor = codes "vxor.vi"

abbrev pub shift_vi_name : ShiftViOp → List ℕ
shift_vi_name shift_vis.Vsll = codes "vsll.vi"
shift_vi_name shift_vis.Vsrl = codes "vsrl.vi"
shift_vi_name shift_vis.Vsra = codes "vsra.vi"

abbrev pub compare_vv_name : CompareVvOp → List ℕ
compare_vv_name compare_vvs.Vmseq = codes "vmseq.vv"
compare_vv_name compare_vvs.Vmsne = codes "vmsne.vv"
compare_vv_name compare_vvs.Vmsltu = codes "vmsltu.vv"
compare_vv_name compare_vvs.Vmslt = codes "vmslt.vv"
compare_vv_name compare_vvs.Vmsleu = codes "vmsleu.vv"
compare_vv_name compare_vvs.Vmsle = codes "vmsle.vv"

abbrev pub compare_vx_name : CompareVxOp → List ℕ
compare_vx_name compare_vxs.Vmseq = codes "vmseq.vx"
compare_vx_name compare_vxs.Vmsne = codes "vmsne.vx"
compare_vx_name compare_vxs.Vmsltu = codes "vmsltu.vx"
compare_vx_name compare_vxs.Vmslt = codes "vmslt.vx"
compare_vx_name compare_vxs.Vmsleu = codes "vmsleu.vx"
compare_vx_name compare_vxs.Vmsle = codes "vmsle.vx"
compare_vx_name compare_vxs.Vmsgtu = codes "vmsgtu.vx"
compare_vx_name compare_vxs.Vmsgt = codes "vmsgt.vx"

abbrev pub compare_vi_name : CompareViOp → List ℕ
compare_vi_name compare_vis.Vmseq = codes "vmseq.vi"
compare_vi_name compare_vis.Vmsne = codes "vmsne.vi"
compare_vi_name compare_vis.Vmsleu = codes "vmsleu.vi"
compare_vi_name compare_vis.Vmsle = codes "vmsle.vi"
compare_vi_name compare_vis.Vmsgtu = codes "vmsgtu.vi"
compare_vi_name compare_vis.Vmsgt = codes "vmsgt.vi"

abbrev pub multiply_vv_name : MultiplyOp → List ℕ
multiply_vv_name multiplies.Vdivu = codes "vdivu.vv"
multiply_vv_name multiplies.Vdiv = codes "vdiv.vv"
multiply_vv_name multiplies.Vremu = codes "vremu.vv"
multiply_vv_name multiplies.Vrem = codes "vrem.vv"
multiply_vv_name multiplies.Vmulhu = codes "vmulhu.vv"
multiply_vv_name multiplies.Vmul = codes "vmul.vv"
multiply_vv_name multiplies.Vmulhsu = codes "vmulhsu.vv"
multiply_vv_name multiplies.Vmulh = codes "vmulh.vv"

abbrev pub multiply_vx_name : MultiplyOp → List ℕ
multiply_vx_name multiplies.Vdivu = codes "vdivu.vx"
multiply_vx_name multiplies.Vdiv = codes "vdiv.vx"
multiply_vx_name multiplies.Vremu = codes "vremu.vx"
multiply_vx_name multiplies.Vrem = codes "vrem.vx"
multiply_vx_name multiplies.Vmulhu = codes "vmulhu.vx"
multiply_vx_name multiplies.Vmul = codes "vmul.vx"
multiply_vx_name multiplies.Vmulhsu = codes "vmulhsu.vx"
multiply_vx_name multiplies.Vmulh = codes "vmulh.vx"

abbrev pub reduction_name : ReductionOp → List ℕ
reduction_name reductions.Vredsum = codes "vredsum.vs"
reduction_name reductions.Vredminu = codes "vredminu.vs"
reduction_name reductions.Vredmin = codes "vredmin.vs"
reduction_name reductions.Vredmaxu = codes "vredmaxu.vs"
reduction_name reductions.Vredmax = codes "vredmax.vs"

abbrev pub load_elements_name : AddressMode → ElementWidth → List ℕ
load_elements_name modes.UnitStride widths.Bits8 = codes "vle8.v"
load_elements_name modes.UnitStride widths.Bits16 = codes "vle16.v"
load_elements_name modes.UnitStride widths.Bits32 = codes "vle32.v"
load_elements_name modes.Strided widths.Bits8 = codes "vlse8.v"
load_elements_name modes.Strided widths.Bits16 = codes "vlse16.v"
load_elements_name modes.Strided widths.Bits32 = codes "vlse32.v"
load_elements_name modes.Indexed widths.Bits8 = codes "vluxei8.v"
load_elements_name modes.Indexed widths.Bits16 = codes "vluxei16.v"
load_elements_name modes.Indexed widths.Bits32 = codes "vluxei32.v"

abbrev pub store_elements_name : AddressMode → ElementWidth → List ℕ
store_elements_name modes.UnitStride widths.Bits8 = codes "vse8.v"
store_elements_name modes.UnitStride widths.Bits16 = codes "vse16.v"
store_elements_name modes.UnitStride widths.Bits32 = codes "vse32.v"
store_elements_name modes.Strided widths.Bits8 = codes "vsse8.v"
store_elements_name modes.Strided widths.Bits16 = codes "vsse16.v"
store_elements_name modes.Strided widths.Bits32 = codes "vsse32.v"
store_elements_name modes.Indexed widths.Bits8 = codes "vsuxei8.v"
store_elements_name modes.Indexed widths.Bits16 = codes "vsuxei16.v"
store_elements_name modes.Indexed widths.Bits32 = codes "vsuxei32.v"

-- ---- all operations of each group, and all widths

abbrev pub all_arithmetic_vvs : List ArithmeticVvOp
all_arithmetic_vvs = arithmetic_vvs.Vadd ∷ arithmetic_vvs.Vsub ∷ arithmetic_vvs.Vminu ∷ arithmetic_vvs.Vmin ∷ arithmetic_vvs.Vmaxu ∷ arithmetic_vvs.Vmax
    ∷ arithmetic_vvs.Vand ∷ arithmetic_vvs.Vor ∷ arithmetic_vvs.Vxor ∷ arithmetic_vvs.Vsll ∷ arithmetic_vvs.Vsrl ∷ arithmetic_vvs.Vsra ∷ []

abbrev pub all_arithmetic_vxs : List ArithmeticVxOp
all_arithmetic_vxs = arithmetic_vxs.Vadd ∷ arithmetic_vxs.Vsub ∷ arithmetic_vxs.Vrsub ∷ arithmetic_vxs.Vminu ∷ arithmetic_vxs.Vmin ∷ arithmetic_vxs.Vmaxu
    ∷ arithmetic_vxs.Vmax ∷ arithmetic_vxs.Vand ∷ arithmetic_vxs.Vor ∷ arithmetic_vxs.Vxor ∷ arithmetic_vxs.Vsll ∷ arithmetic_vxs.Vsrl ∷ arithmetic_vxs.Vsra
    ∷ []

abbrev pub all_arithmetic_vis : List ArithmeticViOp
all_arithmetic_vis = arithmetic_vis.Vadd ∷ arithmetic_vis.Vrsub ∷ arithmetic_vis.Vand ∷ arithmetic_vis.Vor ∷ arithmetic_vis.Vxor ∷ []

abbrev pub all_shift_vis : List ShiftViOp
all_shift_vis = shift_vis.Vsll ∷ shift_vis.Vsrl ∷ shift_vis.Vsra ∷ []

abbrev pub all_compare_vvs : List CompareVvOp
all_compare_vvs = compare_vvs.Vmseq ∷ compare_vvs.Vmsne ∷ compare_vvs.Vmsltu ∷ compare_vvs.Vmslt ∷ compare_vvs.Vmsleu ∷ compare_vvs.Vmsle ∷ []

abbrev pub all_compare_vxs : List CompareVxOp
all_compare_vxs = compare_vxs.Vmseq ∷ compare_vxs.Vmsne ∷ compare_vxs.Vmsltu ∷ compare_vxs.Vmslt ∷ compare_vxs.Vmsleu ∷ compare_vxs.Vmsle
    ∷ compare_vxs.Vmsgtu ∷ compare_vxs.Vmsgt ∷ []

abbrev pub all_compare_vis : List CompareViOp
all_compare_vis = compare_vis.Vmseq ∷ compare_vis.Vmsne ∷ compare_vis.Vmsleu ∷ compare_vis.Vmsle ∷ compare_vis.Vmsgtu ∷ compare_vis.Vmsgt ∷ []

abbrev pub all_multiplies : List MultiplyOp
all_multiplies = multiplies.Vdivu ∷ multiplies.Vdiv ∷ multiplies.Vremu ∷ multiplies.Vrem ∷ multiplies.Vmulhu ∷ multiplies.Vmul ∷ multiplies.Vmulhsu
    ∷ multiplies.Vmulh ∷ []

abbrev pub all_reductions : List ReductionOp
all_reductions = reductions.Vredsum ∷ reductions.Vredminu ∷ reductions.Vredmin ∷ reductions.Vredmaxu ∷ reductions.Vredmax ∷ []

abbrev pub all_widths : List ElementWidth
all_widths = widths.Bits8 ∷ widths.Bits16 ∷ widths.Bits32 ∷ []

-- ---- the name of an instruction

abbrev pub vector_name_of : VectorInsn → List ℕ
vector_name_of (ArithmeticVv op vd vs2 vs1 vm) = arithmetic_vv_name op
vector_name_of (ArithmeticVx op vd vs2 rs1 vm) = arithmetic_vx_name op
vector_name_of (ArithmeticVi op vd vs2 imm vm) = arithmetic_vi_name op
vector_name_of (ShiftVi op vd vs2 amount vm) = shift_vi_name op
vector_name_of (CompareVv op vd vs2 vs1 vm) = compare_vv_name op
vector_name_of (CompareVx op vd vs2 rs1 vm) = compare_vx_name op
vector_name_of (CompareVi op vd vs2 imm vm) = compare_vi_name op
vector_name_of (MultiplyVv op vd vs2 vs1 vm) = multiply_vv_name op
vector_name_of (MultiplyVx op vd vs2 rs1 vm) = multiply_vx_name op
vector_name_of (Reduce op vd vs2 vs1 vm) = reduction_name op
vector_name_of (MergeVv vd vs2 vs1) = codes "vmerge.vvm"
vector_name_of (MergeVx vd vs2 rs1) = codes "vmerge.vxm"
vector_name_of (MergeVi vd vs2 imm) = codes "vmerge.vim"
vector_name_of (MoveVv vd vs1) = codes "vmv.v.v"
vector_name_of (MoveVx vd rs1) = codes "vmv.v.x"
vector_name_of (MoveVi vd imm) = codes "vmv.v.i"
vector_name_of (MoveToScalar rd vs2) = codes "vmv.x.s"
vector_name_of (MoveFromScalar vd rs1) = codes "vmv.s.x"
vector_name_of (ElementNumbers vd vm) = codes "vid.v"
vector_name_of (ExtendBytes vd vs2 vm) = codes "vzext.vf4"
vector_name_of (Vsetvli rd rs1 vtype) = codes "vsetvli"
vector_name_of (Vsetivli rd length vtype) = codes "vsetivli"
vector_name_of (Vsetvl rd rs1 rs2) = codes "vsetvl"
vector_name_of (LoadElements width vd rs1 addressing vm) = load_elements_name (mode_of addressing) width
vector_name_of (StoreElements width vs3 rs1 addressing vm) = store_elements_name (mode_of addressing) width

-- ---- the numbers in its fields, in the order of its row

abbrev pub vector_fields_of : VectorInsn → List ℤ
vector_fields_of (ArithmeticVv op vd vs2 vs1 vm) = pos vd ∷ pos vs2 ∷ pos vs1 ∷ pos (bit_of vm) ∷ []
vector_fields_of (ArithmeticVx op vd vs2 rs1 vm) = pos vd ∷ pos vs2 ∷ pos rs1 ∷ pos (bit_of vm) ∷ []
vector_fields_of (ArithmeticVi op vd vs2 imm vm) = pos vd ∷ pos vs2 ∷ imm ∷ pos (bit_of vm) ∷ []
vector_fields_of (ShiftVi op vd vs2 amount vm) = pos vd ∷ pos vs2 ∷ pos amount ∷ pos (bit_of vm) ∷ []
vector_fields_of (CompareVv op vd vs2 vs1 vm) = pos vd ∷ pos vs2 ∷ pos vs1 ∷ pos (bit_of vm) ∷ []
vector_fields_of (CompareVx op vd vs2 rs1 vm) = pos vd ∷ pos vs2 ∷ pos rs1 ∷ pos (bit_of vm) ∷ []
vector_fields_of (CompareVi op vd vs2 imm vm) = pos vd ∷ pos vs2 ∷ imm ∷ pos (bit_of vm) ∷ []
vector_fields_of (MultiplyVv op vd vs2 vs1 vm) = pos vd ∷ pos vs2 ∷ pos vs1 ∷ pos (bit_of vm) ∷ []
vector_fields_of (MultiplyVx op vd vs2 rs1 vm) = pos vd ∷ pos vs2 ∷ pos rs1 ∷ pos (bit_of vm) ∷ []
vector_fields_of (Reduce op vd vs2 vs1 vm) = pos vd ∷ pos vs2 ∷ pos vs1 ∷ pos (bit_of vm) ∷ []
vector_fields_of (MergeVv vd vs2 vs1) = pos vd ∷ pos vs2 ∷ pos vs1 ∷ []
vector_fields_of (MergeVx vd vs2 rs1) = pos vd ∷ pos vs2 ∷ pos rs1 ∷ []
vector_fields_of (MergeVi vd vs2 imm) = pos vd ∷ pos vs2 ∷ imm ∷ []
vector_fields_of (MoveVv vd vs1) = pos vd ∷ pos vs1 ∷ []
vector_fields_of (MoveVx vd rs1) = pos vd ∷ pos rs1 ∷ []
vector_fields_of (MoveVi vd imm) = pos vd ∷ imm ∷ []
vector_fields_of (MoveToScalar rd vs2) = pos rd ∷ pos vs2 ∷ []
vector_fields_of (MoveFromScalar vd rs1) = pos vd ∷ pos rs1 ∷ []
vector_fields_of (ElementNumbers vd vm) = pos vd ∷ pos (bit_of vm) ∷ []
vector_fields_of (ExtendBytes vd vs2 vm) = pos vd ∷ pos vs2 ∷ pos (bit_of vm) ∷ []
vector_fields_of (Vsetvli rd rs1 vtype) = pos rd ∷ pos rs1 ∷ pos vtype ∷ []
vector_fields_of (Vsetivli rd length vtype) = pos rd ∷ pos length ∷ pos vtype ∷ []
vector_fields_of (Vsetvl rd rs1 rs2) = pos rd ∷ pos rs1 ∷ pos rs2 ∷ []
vector_fields_of (LoadElements width vd rs1 addressing vm) = pos vd ∷ pos rs1 ∷ (offset_fields addressing ++ (pos (bit_of vm) ∷ []))
vector_fields_of (StoreElements width vs3 rs1 addressing vm) = pos vs3 ∷ pos rs1 ∷ (offset_fields addressing ++ (pos (bit_of vm) ∷ []))
