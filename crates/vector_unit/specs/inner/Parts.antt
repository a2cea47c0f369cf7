-- A group register by register: the words of private functions, which a reader need not believe.
use Rattle.std.specs.Prelude.{◌≡◌, ℕ, zero, suc, ◌+◌, ◌*◌, ◌/◌, ◌%◌, ◌^◌, Bool, List, map, slice_index, replicate}
use Rattle.std.specs.List.{range_with_len}
use Rattle.lanes.specs.Words as word
use Rattle.lanes.specs.Words.{elements, register_of, zip_with, merged, reduced, active, mask_bits, with_mask_bits_from}
use Rattle.rv_insn.specs.declared.vector_operations.CompareVxOp.{CompareVxOp}
use Rattle.rv_insn.specs.declared.vector_operations.ReductionOp.{ReductionOp}
use Rattle.vector_unit.specs.declared.elements.NewElements.{NewElements}
use Rattle.vector_unit.specs.declared.elements.NewElements.TheVariants.{Arithmetic, Multiply, Merge, Copy, Numbers, Bytes}
use Rattle.vector_unit.specs.declared.operands.OtherOperand.{OtherOperand}
use Rattle.vector_unit.specs.declared.operands.OtherOperand.TheVariants.{Register, Number, Immediate, Amount}
use Rattle.vector_unit.specs.Vector.{Vectors, register, with_register, width, count, of_group, bytes_of_register, merged_by_mask}
use Rattle.vector_unit.specs.Operands.{operand_elements}
use Rattle.vector_unit.specs.Operations as op

-- the elements that a group gets
abbrev pub new_elements : Vectors → NewElements → List ℕ
new_elements state (Arithmetic o vs2 other) = zip_with (op.arithmetic_vx o (width state)) (of_group state vs2) (operand_elements state other)
new_elements state (Multiply o vs2 other) = zip_with (op.multiply o (width state)) (of_group state vs2) (operand_elements state other)
new_elements state (Merge vs2 other) = merged_by_mask state (operand_elements state other) (of_group state vs2)
new_elements state (Copy other) = operand_elements state other
new_elements state Numbers = range_with_len 0 (count state)
new_elements state (Bytes vs2) = bytes_of_register state vs2

-- bytes are extended to words alone
abbrev pub AtWords : Vectors → NewElements → Type 0
AtWords state (Arithmetic o vs2 other) = Unit {0}
AtWords state (Multiply o vs2 other) = Unit {0}
AtWords state (Merge vs2 other) = Unit {0}
AtWords state (Copy other) = Unit {0}
AtWords state Numbers = Unit {0}
AtWords state (Bytes vs2) = width state ≡ 32

-- ---- parts: as many elements as a register has

abbrev pub own_count : Vectors → ℕ
own_count state = 128 / width state

abbrev pub register_part : Vectors → ℕ → ℕ → List ℕ
register_part state v part = elements (width state) (register state (v + part))

abbrev pub operand_part : Vectors → OtherOperand → ℕ → List ℕ
operand_part state (Register v) part = register_part state v part
operand_part state (Number n) part = replicate (own_count state) (n % 2 ^ width state)
operand_part state (Immediate imm) part = replicate (own_count state) (word.wrapped (width state) imm)
operand_part state (Amount amount) part = replicate (own_count state) amount

abbrev pub active_part : Vectors → Bool → ℕ → List Bool
active_part state vm part = active (part * own_count state) (own_count state) state.vl vm (register state 0)

abbrev pub new_part : Vectors → NewElements → ℕ → List ℕ
new_part state (Arithmetic o vs2 other) part = zip_with (op.arithmetic_vx o (width state)) (register_part state vs2 part) (operand_part state other part)
new_part state (Multiply o vs2 other) part = zip_with (op.multiply o (width state)) (register_part state vs2 part) (operand_part state other part)
new_part state (Merge vs2 other) part = merged (mask_bits (part * own_count state) (own_count state) (register state 0)) (operand_part state other part)
    (register_part state vs2 part)
new_part state (Copy other) part = operand_part state other part
new_part state Numbers part = map (λ i. (part * own_count state + i) % 2 ^ width state) (range_with_len 0 (own_count state))
new_part state (Bytes vs2) part = map (λ i. slice_index (register state vs2) (part * own_count state + i)) (range_with_len 0 (own_count state))

-- the bytes of a register of a group, with new elements where they are active
abbrev pub merged_register : Vectors → ℕ → Bool → NewElements → ℕ → List ℕ
merged_register state vd vm new part =
    register_of (width state) (merged (active_part state vm part) (new_part state new part) (register_part state vd part))

-- this many registers of a group from a part on with new elements
abbrev pub with_parts : Vectors → ℕ → Bool → NewElements → ℕ → ℕ → Vectors
with_parts state vd vm new part zero = state
with_parts state vd vm new part (suc others) =
    with_register (with_parts state vd vm new (part + 1) others) (vd + part) (merged_register state vd vm new part)

-- the bits of a part and of those after it, written to a register
abbrev pub with_part_bits : Vectors → CompareVxOp → ℕ → OtherOperand → Bool → ℕ → List ℕ → List ℕ
with_part_bits state o vs2 other vm part bytes =
    with_mask_bits_from (part * own_count state) (active_part state vm part)
    (zip_with (op.compare_vx o (width state)) (register_part state vs2 part) (operand_part state other part)) bytes

abbrev pub with_parts_bits : Vectors → CompareVxOp → ℕ → OtherOperand → Bool → ℕ → ℕ → List ℕ → List ℕ
with_parts_bits state o vs2 other vm part zero bytes = bytes
with_parts_bits state o vs2 other vm part (suc others) bytes =
    with_parts_bits state o vs2 other vm (part + 1) others (with_part_bits state o vs2 other vm part bytes)

-- a start joined with the active elements of a part and of those after it
abbrev pub reduced_parts : Vectors → ReductionOp → ℕ → Bool → ℕ → ℕ → ℕ → ℕ
reduced_parts state o vs2 vm part zero start = start
reduced_parts state o vs2 vm part (suc others) start =
    reduced_parts state o vs2 vm (part + 1) others
    (reduced (op.reduction o (width state)) (active_part state vm part) start (register_part state vs2 part))
