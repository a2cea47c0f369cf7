-- The vector loads and stores, as far as they are the vector unit's: where the elements lie, which numbers a store writes,
-- and what a load leaves.
-- RISC-V Vector Extension 1.0, chapter 7 "Vector Loads and Stores", with sections 7.2 "Vector Load/Store Addressing Modes"
-- and 7.3 "Vector Load/Store Width Encoding". That elements which are not active are kept is this project's own, and so is
-- that every other byte of a register is.
use Rattle.std.specs.Prelude.{ℕ, ◌<◌, ◌+◌, ◌*◌, ◌/◌, ◌%◌, ◌^◌, Bool, true, false, List, [], ◌∷◌, map, Option, Some, None}
use Rattle.std.specs.List.{range_with_len}
use Rattle.lanes.specs.Words as word
use Rattle.lanes.specs.Words.{with_element, chosen_of}
use Rattle.rv_insn.specs.declared.vector_instructions.VectorInsn.{VectorInsn}
use Rattle.rv_insn.specs.declared.vector_operations.ElementWidth.{ElementWidth}
use Rattle.rv_insn.specs.declared.vector_instructions.VectorInsn.TheVariants as v
use Rattle.rv_insn.specs.declared.vector_instructions.Addressing.{Addressing}
use Rattle.rv_insn.specs.declared.vector_instructions.Addressing.TheVariants as addressings
use Rattle.vector_unit.specs.Vector.{Vectors, register, with_register, bits_of, width, count, element_from, active_in}
use Rattle.vector_unit.specs.declared.accesses.Spacing.{Spacing}
use Rattle.vector_unit.specs.declared.accesses.Spacing.TheVariants.{UnitStride, Strided, Indexed}

-- ---- where elements lie

-- the spacing of elements of a width, where x gives the integer registers
abbrev pub spacing_of : ElementWidth → Addressing → (ℕ → ℕ) → Spacing
spacing_of w addressings.UnitStride x = UnitStride w
spacing_of w (addressings.Strided rs2) x = Strided (x rs2)
spacing_of w (addressings.Indexed vs2) x = Indexed vs2

-- how many bytes from the base element i lies, modulo 2^32
abbrev pub offset : Vectors → Spacing → ℕ → ℕ
offset state (UnitStride w) i = i * (bits_of w / 8)
offset state (Strided stride) i = word.multiply 32 i stride
offset state (Indexed vs2) i = element_from state (width state) vs2 i

-- the same of all elements, active or not
abbrev pub offsets_by : Vectors → Spacing → List ℕ
offsets_by state spacing = map (offset state spacing) (range_with_len 0 (count state))

-- where elements are words, the offset of element i lies in the registers, if it is one of theirs
abbrev pub IsHeld : Spacing → ℕ → Type 0
IsHeld (UnitStride w) i = Unit {0}
IsHeld (Strided stride) i = Unit {0}
IsHeld (Indexed vs2) i = vs2 + i / 4 < 32

-- the addresses of the active elements, element by element
unfoldable pub addresses_by : Vectors → Spacing → Bool → ℕ → List ℕ
addresses_by state spacing vm base = map (word.add 32 base) (chosen_of (active_in state vm) (offsets_by state spacing))

-- the numbers of the active elements of a width, element by element
abbrev pub active_numbers : Vectors → ElementWidth → ℕ → Bool → List ℕ
active_numbers state w v vm = chosen_of (active_in state vm) (map (element_from state (bits_of w) v) (range_with_len 0 (count state)))

-- ---- what a load leaves

-- element i of a width, of those of the registers from one on, with the low bits of a number; every other byte is kept
abbrev pub with_element_from : Vectors → ℕ → ℕ → ℕ → ℕ → Vectors
with_element_from state w v i n =
    with_register state (v + i / (128 / w)) (with_element w (register state (v + i / (128 / w))) (i % (128 / w)) (n % 2 ^ w))

-- of the elements from one on each that is active takes the next number, as far as there are any
abbrev pub filled_from : ℕ → Vectors → ℕ → ℕ → List Bool → List ℕ → Vectors
filled_from i state w v [] numbers = state
filled_from i state w v (false ∷ flags) numbers = filled_from (i + 1) state w v flags numbers
filled_from i state w v (true ∷ flags) [] = state
filled_from i state w v (true ∷ flags) (n ∷ numbers) = filled_from (i + 1) (with_element_from state w v i n) w v flags numbers

-- the numbers that the active elements read are written as elements of a width
abbrev pub loaded : Vectors → ElementWidth → ℕ → Bool → List ℕ → Vectors
loaded state w vd vm numbers = filled_from 0 state (bits_of w) vd (active_in state vm) numbers

-- ---- the rows, where x gives the integer registers

abbrev pub addresses : VectorInsn → (ℕ → ℕ) → Vectors → List ℕ
addresses (v.LoadElements w vd rs1 addressing vm) x state = addresses_by state (spacing_of w addressing x) vm (x rs1)
addresses (v.StoreElements w vs3 rs1 addressing vm) x state = addresses_by state (spacing_of w addressing x) vm (x rs1)
addresses insn x state = []

-- the numbers that a store writes, one for each address
abbrev pub stored_numbers : VectorInsn → Vectors → List ℕ
stored_numbers (v.StoreElements w vs3 rs1 addressing vm) state = active_numbers state w vs3 vm
stored_numbers insn state = []

-- the vector state after a load whose active elements read these numbers
abbrev pub loaded_by : VectorInsn → Vectors → List ℕ → Vectors
loaded_by (v.LoadElements w vd rs1 addressing vm) state numbers = loaded state w vd vm numbers
loaded_by insn state numbers = state

-- the width of a load's or store's elements
abbrev pub width_in : VectorInsn → Option ElementWidth
width_in (v.LoadElements w vd rs1 addressing vm) = Some w
width_in (v.StoreElements w vs3 rs1 addressing vm) = Some w
width_in insn = None
