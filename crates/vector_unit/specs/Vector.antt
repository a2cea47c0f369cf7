-- The rows of the vector instructions: what each that touches no memory leaves of the vector state, what it gives to an
-- integer register, and which rows are illegal in a state.
-- RISC-V Vector Extension 1.0, chapters 5 "Vector Instruction Formats", 7 "Vector Loads and Stores", with section 7.3
-- "Vector Load/Store Width Encoding", 11 "Vector Integer Arithmetic Instructions", with sections 11.3 "Vector Integer
-- Extension", 11.15 "Vector Integer Merge Instructions" and 11.16 "Vector Integer Move Instructions", 14 "Vector Reduction
-- Operations"; sections 3.4.2 "Vector Register Grouping (vlmul[2:0])" and 4.3 "Mapping for LMUL > 1", 5.2 "Vector Operands"
-- (EMUL), 15.9 "Vector Element Index Instruction" and 16.1 "Integer Scalar Move Instructions". This project's own are that
-- elements which are not active are kept, that a masked row whose destination is v0 is illegal (vmerge too, compares and
-- reductions apart), that the width of accesses at offsets, and of extended bytes, has to be the configured one, that no row
-- takes more than four registers, and that all sources are read before anything is written, whatever overlaps.
use Rattle.std.specs.Prelude.{ℕ, zero, suc, ◌+◌, ◌*◌, ◌/◌, ◌%◌, ◌^◌, ◌==◌, ◌&&◌, ◌||◌, not, Bool, true, false, if◌then◌else◌, nat_lt, List, [], ◌∷◌, map, take}
use Rattle.std.specs.Prelude.{drop, slice_index, replicate, Option, Some, None, ℤ, min, nat_le, slice_index_or, slice_set}
use Rattle.std.specs.List.{list_any, range_with_len}
use Rattle.lanes.specs.Words as word
use Rattle.lanes.specs.Words.{element, with_element, register_of, zip_with, merged, reduced, active, mask_bits, with_mask_bits_from}
use Rattle.rv_insn.specs.declared.vector_instructions.VectorInsn.{VectorInsn}
use Rattle.rv_insn.specs.declared.vector_instructions.VectorInsn.TheVariants as v
use Rattle.rv_insn.specs.declared.vector_instructions.Addressing.{Addressing}
use Rattle.rv_insn.specs.declared.vector_instructions.Addressing.TheVariants as addressings
use Rattle.rv_insn.specs.declared.vector_operations.ElementWidth.{ElementWidth}
use Rattle.rv_insn.specs.declared.vector_operations.ElementWidth.TheVariants as widths
use Rattle.vector_unit.specs.declared.configuration.RequestedLength.{RequestedLength}
use Rattle.vector_unit.specs.declared.configuration.RequestedLength.TheVariants.{AtMost, AsManyAsFit, AsBefore}
use Rattle.vector_unit.specs.Operations as op

-- ---- The vector state of a hart, and its configuration.
-- RISC-V Vector Extension 1.0, chapters 3 "Vector Extension Programmer's Model", with section 3.4.2 "Vector Register Grouping
-- (vlmul[2:0])", and 6 "Configuration-Setting Instructions (vsetvli/vsetivli/vsetvl)". That a register has 16 bytes, which
-- vtypes are supported, that vl is the smaller of AVL and VLMAX, and that it is illegal to keep a vl where there is no
-- configuration or VLMAX would change, are this project's own.

pub record Vectors : Type 0 where
  -- 32 lists of 16 bytes
  pub registers : List (List ℕ)
  pub vl : ℕ
  pub vtype : ℕ

-- the bytes of a register, byte 0 first; beyond the last register, which no legal row names, they are 0
abbrev pub register : Vectors → ℕ → List ℕ
register state v = slice_index_or state.registers v (replicate 16 0)

abbrev pub with_register : Vectors → ℕ → List ℕ → Vectors
with_register state v bytes = record state { registers = slice_set state.registers v bytes }

-- ---- vtype: vlmul in bits 2 to 0, vsew in 5 to 3, vta in 6, vma in 7, vill in 31

-- nothing but vill: no configuration
abbrev pub vill : ℕ
vill = 2147483648

abbrev pub vlmul_of : ℕ → ℕ
vlmul_of vtype = vtype % 8

abbrev pub vsew_of : ℕ → ℕ
vsew_of vtype = vtype / 8 % 8

-- elements of 8, 16 or 32 bits in groups of 1, 2 or 4 registers, and no bit set but those of vlmul, vsew, vta and vma
abbrev pub is_supported : ℕ → Bool
is_supported vtype = nat_lt vtype 256 && nat_le (vlmul_of vtype) 2 && nat_le (vsew_of vtype) 2

-- how many bits an element has
abbrev pub width_of : ℕ → ℕ
width_of vtype = 8 * 2 ^ vsew_of vtype

-- how many registers a group has: LMUL
abbrev pub group_of : ℕ → ℕ
group_of vtype = 2 ^ vlmul_of vtype

-- how many elements a group has: VLMAX
abbrev pub most_elements : ℕ → ℕ
most_elements vtype = 128 * group_of vtype / width_of vtype

-- at the start all is 0, and there is no configuration
abbrev pub opening_vector_state : Vectors
opening_vector_state = record { registers = replicate 32 (replicate 16 0); vl = 0; vtype = vill }

-- whether there is no configuration: whatever is not supported counts as none
abbrev pub has_vill : Vectors → Bool
has_vill state = not (is_supported state.vtype)

-- ---- configuration

-- by vsetvli and vsetvl: the number in rs1, unless that is x0; then as many as fit, or with rd x0 too as before
abbrev pub asked_by : ℕ → ℕ → ℕ → RequestedLength
asked_by rd rs1 number = if not (rs1 == 0) then AtMost number else (if rd == 0 then AsBefore else AsManyAsFit)

-- vl can be kept only if there is a configuration with the same VLMAX
abbrev pub is_illegal_configuration : Vectors → ℕ → RequestedLength → Bool
is_illegal_configuration state vtype (AtMost count) = false
is_illegal_configuration state vtype AsManyAsFit = false
is_illegal_configuration state vtype AsBefore =
    is_supported vtype && (has_vill state || not (most_elements state.vtype == most_elements vtype))

abbrev pub length_for : Vectors → ℕ → RequestedLength → ℕ
length_for state vtype (AtMost count) = min count (most_elements vtype)
length_for state vtype AsManyAsFit = most_elements vtype
length_for state vtype AsBefore = state.vl

-- a vtype that is not supported sets vill and vl 0
abbrev pub configured : Vectors → ℕ → RequestedLength → Vectors
configured state vtype asked =
    if is_supported vtype then record state { vl = length_for state vtype asked; vtype = vtype }
    else record state { vl = 0; vtype = vill }

-- ---- operands, in the state's configuration

abbrev pub width : Vectors → ℕ
width state = width_of state.vtype

abbrev pub count : Vectors → ℕ
count state = most_elements state.vtype

-- how many registers a group has
abbrev pub group : Vectors → ℕ
group state = group_of state.vtype

-- element i of a width, of those of the registers from one on, one register after the other
abbrev pub element_from : Vectors → ℕ → ℕ → ℕ → ℕ
element_from state w v i = element w (register state (v + i / (128 / w))) (i % (128 / w))

-- the elements of a group of registers, of the low bits of an integer register, of a signed immediate
abbrev pub of_group : Vectors → ℕ → List ℕ
of_group state v = map (element_from state (width state) v) (range_with_len 0 (count state))

abbrev pub of_scalar : Vectors → ℕ → List ℕ
of_scalar state number = replicate (count state) (number % 2 ^ width state)

abbrev pub of_immediate : Vectors → ℤ → List ℕ
of_immediate state imm = replicate (count state) (word.wrapped (width state) imm)

-- the first bytes of a vector register, as many as there are elements
abbrev pub bytes_of_register : Vectors → ℕ → List ℕ
bytes_of_register state v = map (slice_index (register state v)) (range_with_len 0 (count state))

-- which elements are active, by the mask bit of the word
abbrev pub active_in : Vectors → Bool → List Bool
active_in state vm = active 0 (count state) state.vl vm (register state 0)

-- ---- results

-- this many registers from one on, holding elements of a width one register after the other
abbrev pub with_registers : Vectors → ℕ → ℕ → ℕ → List ℕ → Vectors
with_registers state w v zero numbers = state
with_registers state w v (suc others) numbers =
    with_register (with_registers state w (v + 1) others (drop (128 / w) numbers)) v (register_of w (take (128 / w) numbers))

-- new elements where they are active, the old ones elsewhere
abbrev pub with_elements : Vectors → ℕ → Bool → List ℕ → Vectors
with_elements state vd vm new = with_registers state (width state) vd (group state) (merged (active_in state vm) new (of_group state vd))

-- new mask bits where the elements are active, the old ones elsewhere
abbrev pub with_bits : Vectors → ℕ → Bool → List Bool → Vectors
with_bits state vd vm bits = with_register state vd (with_mask_bits_from 0 (active_in state vm) bits (register state vd))

-- element 0, unless vl is 0
abbrev pub with_first : Vectors → ℕ → ℕ → Vectors
with_first state vd number =
    if state.vl == 0 then state else with_register state vd (with_element (width state) (register state vd) 0 number)

-- the other operand where v0 has a 1, else the elements of vs2
abbrev pub merged_by_mask : Vectors → List ℕ → List ℕ → List ℕ
merged_by_mask state other of_vs2 = merged (mask_bits 0 (count state) (register state 0)) other of_vs2

-- ---- what a configuration asks for

-- the vtype and the elements that are asked for, where x gives the integer registers
abbrev pub asked_of : VectorInsn → (ℕ → ℕ) → Option (ℕ × RequestedLength)
asked_of (v.Vsetvli rd rs1 vtype) x = Some (vtype, asked_by rd rs1 (x rs1))
asked_of (v.Vsetivli rd length vtype) x = Some (vtype, AtMost length)
asked_of (v.Vsetvl rd rs1 rs2) x = Some (x rs2, asked_by rd rs1 (x rs1))
asked_of insn x = None

-- ---- the vector state after an instruction on registers alone

abbrev pub vector_after : VectorInsn → (ℕ → ℕ) → Vectors → Vectors
vector_after (v.ArithmeticVv o vd vs2 vs1 vm) x state = with_elements state vd vm (zip_with (op.arithmetic_vv o (width state)) (of_group state vs2)
    (of_group state vs1))
vector_after (v.ArithmeticVx o vd vs2 rs1 vm) x state = with_elements state vd vm (zip_with (op.arithmetic_vx o (width state)) (of_group state vs2)
    (of_scalar state (x rs1)))
vector_after (v.ArithmeticVi o vd vs2 imm vm) x state = with_elements state vd vm (zip_with (op.arithmetic_vi o (width state)) (of_group state vs2)
    (of_immediate state imm))
vector_after (v.ShiftVi o vd vs2 amount vm) x state = with_elements state vd vm (zip_with (op.shift_vi o (width state)) (of_group state vs2)
    (replicate (count state) amount))
vector_after (v.CompareVv o vd vs2 vs1 vm) x state = with_bits state vd vm (zip_with (op.compare_vv o (width state)) (of_group state vs2) (of_group state vs1))
vector_after (v.CompareVx o vd vs2 rs1 vm) x state = with_bits state vd vm (zip_with (op.compare_vx o (width state)) (of_group state vs2)
    (of_scalar state (x rs1)))
vector_after (v.CompareVi o vd vs2 imm vm) x state = with_bits state vd vm (zip_with (op.compare_vi o (width state)) (of_group state vs2)
    (of_immediate state imm))
vector_after (v.MultiplyVv o vd vs2 vs1 vm) x state = with_elements state vd vm (zip_with (op.multiply o (width state)) (of_group state vs2)
    (of_group state vs1))
vector_after (v.MultiplyVx o vd vs2 rs1 vm) x state = with_elements state vd vm (zip_with (op.multiply o (width state)) (of_group state vs2)
    (of_scalar state (x rs1)))
vector_after (v.Reduce o vd vs2 vs1 vm) x state =
    with_first state vd (reduced (op.reduction o (width state)) (active_in state vm) (element (width state) (register state vs1) 0) (of_group state vs2))
vector_after (v.MergeVv vd vs2 vs1) x state = with_elements state vd true (merged_by_mask state (of_group state vs1) (of_group state vs2))
vector_after (v.MergeVx vd vs2 rs1) x state = with_elements state vd true (merged_by_mask state (of_scalar state (x rs1)) (of_group state vs2))
vector_after (v.MergeVi vd vs2 imm) x state = with_elements state vd true (merged_by_mask state (of_immediate state imm) (of_group state vs2))
vector_after (v.MoveVv vd vs1) x state = with_elements state vd true (of_group state vs1)
vector_after (v.MoveVx vd rs1) x state = with_elements state vd true (of_scalar state (x rs1))
vector_after (v.MoveVi vd imm) x state = with_elements state vd true (of_immediate state imm)
vector_after (v.MoveFromScalar vd rs1) x state = with_first state vd (x rs1 % 2 ^ width state)
vector_after (v.ElementNumbers vd vm) x state = with_elements state vd vm (range_with_len 0 (count state))
vector_after (v.ExtendBytes vd vs2 vm) x state = with_elements state vd vm (bytes_of_register state vs2)
vector_after insn x state = state

-- the number that an integer register gets, also with vl 0
abbrev pub scalar_given : VectorInsn → Vectors → Option (ℕ × ℕ)
scalar_given (v.MoveToScalar rd vs2) state = Some (rd, word.wrapped 32 (word.signed (width state) (element (width state) (register state vs2) 0)))
scalar_given insn state = None

-- the number alone
abbrev pub number_of : Option (ℕ × ℕ) → Option ℕ
number_of None = None
number_of (Some given) = Some given.1

-- ---- what is illegal

abbrev pub bits_of : ElementWidth → ℕ
bits_of widths.Bits8 = 8
bits_of widths.Bits16 = 16
bits_of widths.Bits32 = 32

-- a masked row whose destination is the mask: comparisons and reductions may write it, and stores have no destination
abbrev pub overwrites_mask : VectorInsn → Bool
overwrites_mask (v.ArithmeticVv o vd vs2 vs1 vm) = not vm && vd == 0
overwrites_mask (v.ArithmeticVx o vd vs2 rs1 vm) = not vm && vd == 0
overwrites_mask (v.ArithmeticVi o vd vs2 imm vm) = not vm && vd == 0
overwrites_mask (v.ShiftVi o vd vs2 amount vm) = not vm && vd == 0
overwrites_mask (v.MultiplyVv o vd vs2 vs1 vm) = not vm && vd == 0
overwrites_mask (v.MultiplyVx o vd vs2 rs1 vm) = not vm && vd == 0
overwrites_mask (v.MergeVv vd vs2 vs1) = vd == 0
overwrites_mask (v.MergeVx vd vs2 rs1) = vd == 0
overwrites_mask (v.MergeVi vd vs2 imm) = vd == 0
overwrites_mask (v.ElementNumbers vd vm) = not vm && vd == 0
overwrites_mask (v.ExtendBytes vd vs2 vm) = not vm && vd == 0
overwrites_mask (v.LoadElements w vd rs1 addressing vm) = not vm && vd == 0
overwrites_mask insn = false

-- of a load or store the width that has to be the configured one: that of offsets
abbrev pub offset_width : Addressing → ElementWidth → Option ElementWidth
offset_width (addressings.Indexed vs2) w = Some w
offset_width addressing w = None

-- the width that has to be the configured one: that of accesses at offsets, and that of extended bytes
abbrev pub fixed_width : VectorInsn → Option ElementWidth
fixed_width (v.ExtendBytes vd vs2 vm) = Some widths.Bits32
fixed_width (v.LoadElements w vd rs1 addressing vm) = offset_width addressing w
fixed_width (v.StoreElements w vs3 rs1 addressing vm) = offset_width addressing w
fixed_width insn = None

abbrev pub is_other_width : Vectors → Option ElementWidth → Bool
is_other_width state None = false
is_other_width state (Some w) = not (bits_of w == width state)

-- of a load or store of this register the groups of the configured size
abbrev pub offset_groups : Addressing → ℕ → List ℕ
offset_groups (addressings.Indexed vs2) v = v ∷ vs2 ∷ []
offset_groups addressing v = []

-- the registers that are groups; the others of a row stand alone: a mask, a comparison's vd, a reduction's vd and vs1, the
-- bytes that are extended, and what is moved between an integer register and element 0
abbrev pub groups_in : VectorInsn → List ℕ
groups_in (v.ArithmeticVv o vd vs2 vs1 vm) = vd ∷ vs2 ∷ vs1 ∷ []
groups_in (v.ArithmeticVx o vd vs2 rs1 vm) = vd ∷ vs2 ∷ []
groups_in (v.ArithmeticVi o vd vs2 imm vm) = vd ∷ vs2 ∷ []
groups_in (v.ShiftVi o vd vs2 amount vm) = vd ∷ vs2 ∷ []
groups_in (v.CompareVv o vd vs2 vs1 vm) = vs2 ∷ vs1 ∷ []
groups_in (v.CompareVx o vd vs2 rs1 vm) = vs2 ∷ []
groups_in (v.CompareVi o vd vs2 imm vm) = vs2 ∷ []
groups_in (v.MultiplyVv o vd vs2 vs1 vm) = vd ∷ vs2 ∷ vs1 ∷ []
groups_in (v.MultiplyVx o vd vs2 rs1 vm) = vd ∷ vs2 ∷ []
groups_in (v.Reduce o vd vs2 vs1 vm) = vs2 ∷ []
groups_in (v.MergeVv vd vs2 vs1) = vd ∷ vs2 ∷ vs1 ∷ []
groups_in (v.MergeVx vd vs2 rs1) = vd ∷ vs2 ∷ []
groups_in (v.MergeVi vd vs2 imm) = vd ∷ vs2 ∷ []
groups_in (v.MoveVv vd vs1) = vd ∷ vs1 ∷ []
groups_in (v.MoveVx vd rs1) = vd ∷ []
groups_in (v.MoveVi vd imm) = vd ∷ []
groups_in (v.ElementNumbers vd vm) = vd ∷ []
groups_in (v.ExtendBytes vd vs2 vm) = vd ∷ []
groups_in (v.LoadElements w vd rs1 addressing vm) = offset_groups addressing vd
groups_in (v.StoreElements w vs3 rs1 addressing vm) = offset_groups addressing vs3
groups_in insn = []

-- a group begins at a multiple of its size
abbrev pub is_misplaced : Vectors → List ℕ → Bool
is_misplaced state groups = list_any (λ v. not (v % group state == 0)) groups

-- of a load or store the width and the register, where the width may differ from the configured one
abbrev pub moved_by : Addressing → ElementWidth → ℕ → Option (ElementWidth × ℕ)
moved_by (addressings.Indexed vs2) w v = None
moved_by addressing w v = Some (w, v)

-- the same of all rows
abbrev pub moved_in : VectorInsn → Option (ElementWidth × ℕ)
moved_in (v.LoadElements w vd rs1 addressing vm) = moved_by addressing w vd
moved_in (v.StoreElements w vs3 rs1 addressing vm) = moved_by addressing w vs3
moved_in insn = None

-- how many registers elements of a width take, where as many as are configured: EMUL, rounded down
abbrev pub group_at : Vectors → ElementWidth → ℕ
group_at state w = bits_of w * group state / width state

-- more than 4 registers, or a group that doesn't begin at a multiple of its size
abbrev pub is_unfit : Vectors → Option (ElementWidth × ℕ) → Bool
is_unfit state None = false
is_unfit state (Some moved) =
    nat_lt 4 (group_at state moved.0)
    || (nat_lt 1 (group_at state moved.0) && not (moved.1 % group_at state moved.0 == 0))

-- whether the vector unit alone executes a row: one that neither configures it nor touches memory
abbrev pub is_own : VectorInsn → Bool
is_own (v.Vsetvli rd rs1 vtype) = false
is_own (v.Vsetivli rd length vtype) = false
is_own (v.Vsetvl rd rs1 rs2) = false
is_own (v.LoadElements w vd rs1 addressing vm) = false
is_own (v.StoreElements w vs3 rs1 addressing vm) = false
is_own insn = true

-- whether a row that is no configuration is illegal
abbrev pub is_refused : VectorInsn → Vectors → Bool
is_refused insn state =
    has_vill state || overwrites_mask insn || is_other_width state (fixed_width insn) || is_misplaced state (groups_in insn)
    || is_unfit state (moved_in insn)

abbrev pub is_illegal_unless_asked : VectorInsn → Vectors → Option (ℕ × RequestedLength) → Bool
is_illegal_unless_asked insn state (Some asked) = is_illegal_configuration state asked.0 asked.1
is_illegal_unless_asked insn state None = is_refused insn state

abbrev pub is_illegal : VectorInsn → (ℕ → ℕ) → Vectors → Bool
is_illegal insn x state = is_illegal_unless_asked insn state (asked_of insn x)
