-- How the operands of each form are written: one slot for each operand, in the order of the text.
-- This project's own, after the assembly syntax of RISC-V Unprivileged ISA 20191213, chapter 25, and of
-- Vector Extension 1.0, sections 5.3, 6, 7 and 10.
use Rattle.std.specs.Prelude.{ℕ, ℤ, pos, negsuc, ◌≡◌, ◌≤ℤ◌, ◌-ℤ◌, List, [], ◌∷◌, slice_index_or}
use Rattle.rv_insn.specs.Encoding.{bit_of}
use Rattle.rv_insn.specs.declared.vector_operations.AddressMode.{AddressMode}
use Rattle.rv_insn.specs.declared.vector_operations.AddressMode.TheVariants as modes
use Rattle.assembler_mnemonics.specs.declared.slots.Slot.{Slot}
use Rattle.assembler_mnemonics.specs.declared.slots.Slot.TheVariants.{Integer, Vector, MaskRegister, Number, Upper, Based, Address, Target, Configuration, Mask}
use Rattle.assembler_mnemonics.specs.declared.forms.MnemonicForm.{MnemonicForm}
use Rattle.assembler_mnemonics.specs.declared.forms.MnemonicForm.TheVariants as f
use Rattle.assembler_mnemonics.specs.declared.forms.VectorForm.{VectorForm}
use Rattle.assembler_mnemonics.specs.declared.forms.VectorForm.TheVariants as v

-- ---- the slots of a form

-- a signed immediate of 12 bits, a shift's amount, a signed immediate of 5 bits
abbrev pub imm12 : ℕ → Slot
imm12 field = Number field (negsuc 2047) (pos 2047)

abbrev pub amount : ℕ → Slot
amount field = Number field (pos 0) (pos 31)

abbrev pub imm5 : ℕ → Slot
imm5 field = Number field (negsuc 15) (pos 15)

-- vd,vs2,vs1 and kin: the destination, a source, another operand, a mask
abbrev pub vector_operands : Slot → List Slot
vector_operands other = Vector 0 ∷ Vector 1 ∷ other ∷ Mask 3 ∷ []

-- the same with `v0` as a fourth operand
abbrev pub merge_operands : Slot → List Slot
merge_operands other = Vector 0 ∷ Vector 1 ∷ other ∷ MaskRegister ∷ []

-- loads and stores: what is loaded or stored, the address, the register with the stride or the offsets, a mask
abbrev pub access_operands : AddressMode → List Slot
access_operands modes.UnitStride = Vector 0 ∷ Address 1 ∷ Mask 2 ∷ []
access_operands modes.Strided = Vector 0 ∷ Address 1 ∷ Integer 2 ∷ Mask 3 ∷ []
access_operands modes.Indexed = Vector 0 ∷ Address 1 ∷ Vector 2 ∷ Mask 3 ∷ []

unfoldable pub vector_shape : VectorForm → List Slot
vector_shape (v.ArithmeticVv op) = vector_operands (Vector 2)
vector_shape (v.ArithmeticVx op) = vector_operands (Integer 2)
vector_shape (v.ArithmeticVi op) = vector_operands (imm5 2)
vector_shape (v.ShiftVi op) = vector_operands (amount 2)
vector_shape (v.CompareVv op) = vector_operands (Vector 2)
vector_shape (v.CompareVx op) = vector_operands (Integer 2)
vector_shape (v.CompareVi op) = vector_operands (imm5 2)
vector_shape (v.MultiplyVv op) = vector_operands (Vector 2)
vector_shape (v.MultiplyVx op) = vector_operands (Integer 2)
vector_shape (v.Reduce op) = vector_operands (Vector 2)
vector_shape v.MergeVv = merge_operands (Vector 2)
vector_shape v.MergeVx = merge_operands (Integer 2)
vector_shape v.MergeVi = merge_operands (imm5 2)
vector_shape v.MoveVv = Vector 0 ∷ Vector 1 ∷ []
vector_shape v.MoveVx = Vector 0 ∷ Integer 1 ∷ []
vector_shape v.MoveVi = Vector 0 ∷ imm5 1 ∷ []
vector_shape v.MoveToScalar = Integer 0 ∷ Vector 1 ∷ []
vector_shape v.MoveFromScalar = Vector 0 ∷ Integer 1 ∷ []
vector_shape v.ElementNumbers = Vector 0 ∷ Mask 1 ∷ []
vector_shape v.ExtendBytes = Vector 0 ∷ Vector 1 ∷ Mask 2 ∷ []
vector_shape v.Vsetvli = Integer 0 ∷ Integer 1 ∷ Configuration 2 (pos 2047) ∷ []
vector_shape v.Vsetivli = Integer 0 ∷ amount 1 ∷ Configuration 2 (pos 1023) ∷ []
vector_shape v.Vsetvl = Integer 0 ∷ Integer 1 ∷ Integer 2 ∷ []
vector_shape (v.LoadElements mode width) = access_operands mode
vector_shape (v.StoreElements mode width) = access_operands mode

unfoldable pub shape : MnemonicForm → List Slot
shape f.Lui = Integer 0 ∷ Upper 1 ∷ []
shape f.Auipc = Integer 0 ∷ Upper 1 ∷ []
shape f.Jal = Integer 0 ∷ Target 1 (pos 524288) ∷ []
shape f.Jalr = Integer 0 ∷ Based 2 1 ∷ []
shape (f.Branch op) = Integer 0 ∷ Integer 1 ∷ Target 2 (pos 2048) ∷ []
shape (f.Load op) = Integer 0 ∷ Based 2 1 ∷ []
shape (f.Store op) = Integer 1 ∷ Based 2 0 ∷ []
shape (f.AluImm op) = Integer 0 ∷ Integer 1 ∷ imm12 2 ∷ []
shape (f.Shift op) = Integer 0 ∷ Integer 1 ∷ amount 2 ∷ []
shape (f.Alu op) = Integer 0 ∷ Integer 1 ∷ Integer 2 ∷ []
shape (f.AmoaddW aq rl) = Integer 0 ∷ Integer 2 ∷ Address 1 ∷ []
shape f.Fence = []
shape f.Ecall = []
shape f.Ebreak = []
shape (f.Vector form) = vector_shape form

-- ---- the fields of a form before any operand: a mask that isn't written is 1

abbrev pub access_blank : AddressMode → List ℤ
access_blank modes.UnitStride = pos 0 ∷ pos 0 ∷ pos 1 ∷ []
access_blank mode = pos 0 ∷ pos 0 ∷ pos 0 ∷ pos 1 ∷ []

unfoldable pub vector_blank : VectorForm → List ℤ
vector_blank v.MergeVv = pos 0 ∷ pos 0 ∷ pos 0 ∷ []
vector_blank v.MergeVx = pos 0 ∷ pos 0 ∷ pos 0 ∷ []
vector_blank v.MergeVi = pos 0 ∷ pos 0 ∷ pos 0 ∷ []
vector_blank v.MoveVv = pos 0 ∷ pos 0 ∷ []
vector_blank v.MoveVx = pos 0 ∷ pos 0 ∷ []
vector_blank v.MoveVi = pos 0 ∷ pos 0 ∷ []
vector_blank v.MoveToScalar = pos 0 ∷ pos 0 ∷ []
vector_blank v.MoveFromScalar = pos 0 ∷ pos 0 ∷ []
vector_blank v.ElementNumbers = pos 0 ∷ pos 1 ∷ []
vector_blank v.ExtendBytes = pos 0 ∷ pos 0 ∷ pos 1 ∷ []
vector_blank v.Vsetvli = pos 0 ∷ pos 0 ∷ pos 0 ∷ []
vector_blank v.Vsetivli = pos 0 ∷ pos 0 ∷ pos 0 ∷ []
vector_blank v.Vsetvl = pos 0 ∷ pos 0 ∷ pos 0 ∷ []
vector_blank (v.LoadElements mode width) = access_blank mode
vector_blank (v.StoreElements mode width) = access_blank mode
vector_blank form = pos 0 ∷ pos 0 ∷ pos 0 ∷ pos 1 ∷ []

unfoldable pub blank : MnemonicForm → List ℤ
blank f.Lui = pos 0 ∷ pos 0 ∷ []
blank f.Auipc = pos 0 ∷ pos 0 ∷ []
blank f.Jal = pos 0 ∷ pos 0 ∷ []
blank (f.AmoaddW aq rl) = pos 0 ∷ pos 0 ∷ pos 0 ∷ pos (bit_of aq) ∷ pos (bit_of rl) ∷ []
blank f.Fence = []
blank f.Ecall = []
blank f.Ebreak = []
blank (f.Vector form) = vector_blank form
blank form = pos 0 ∷ pos 0 ∷ pos 0 ∷ []

-- ---- what an operand may give

-- the number in a field
abbrev pub field_at : List ℤ → ℕ → ℤ
field_at fields field = slice_index_or fields field (pos 0)

-- a field lies between two numbers, both among them
abbrev pub IsWithin : List ℤ → ℕ → ℤ → ℤ → Type 0
IsWithin fields field least greatest = (least ≤ℤ field_at fields field) × (field_at fields field ≤ℤ greatest)

-- the fields that the slot gives are numbers that it can give
abbrev pub FitsSlot : List ℤ → Slot → Type 0
FitsSlot fields (Integer field) = IsWithin fields field (pos 0) (pos 31)
FitsSlot fields (Vector field) = IsWithin fields field (pos 0) (pos 31)
FitsSlot fields MaskRegister = Unit {0}
FitsSlot fields (Number field least greatest) = IsWithin fields field least greatest
FitsSlot fields (Upper field) = IsWithin fields field (pos 0) (pos 1048575)
FitsSlot fields (Based offset base) = IsWithin fields offset (negsuc 2047) (pos 2047) × IsWithin fields base (pos 0) (pos 31)
FitsSlot fields (Address base) = IsWithin fields base (pos 0) (pos 31)
FitsSlot fields (Target field reach) = IsWithin fields field (pos 0 -ℤ reach) (reach -ℤ pos 1)
FitsSlot fields (Configuration field greatest) = IsWithin fields field (pos 0) greatest
FitsSlot fields (Mask field) = IsWithin fields field (pos 0) (pos 1)

abbrev pub FitsSlots : List ℤ → List Slot → Type 0
FitsSlots fields [] = Unit {0}
FitsSlots fields (slot ∷ slots) = FitsSlot fields slot × FitsSlots fields slots

-- ---- the fields that no operand gives

-- the bits of amoadd.w are the form's
abbrev pub Keeps : MnemonicForm → List ℤ → Type 0
Keeps (f.AmoaddW aq rl) fields = (field_at fields 3 ≡ pos (bit_of aq)) × (field_at fields 4 ≡ pos (bit_of rl))
Keeps form fields = Unit {0}
