-- Slots whose fields are among this many, and whose numbers are small: targets lie within a mebibyte, a vtype has
-- at most 12 bits, and a number as well. It is a premise of private functions, which every form's slots meet.
-- This project's own.
use Rattle.std.specs.Prelude.{ℕ, ◌<◌, pos, negsuc, ◌≤ℤ◌, List, [], ◌∷◌}
use Rattle.assembler_mnemonics.specs.declared.slots.Slot.{Slot}
use Rattle.assembler_mnemonics.specs.declared.slots.Slot.TheVariants.{Integer, Vector, MaskRegister, Number, Upper, Based, Address, Target, Configuration, Mask}

abbrev pub Reaches : ℕ → Slot → Type 0
Reaches count (Integer field) = field < count
Reaches count (Vector field) = field < count
Reaches count MaskRegister = Unit {0}
Reaches count (Number field least greatest) = (field < count) × (negsuc 2047 ≤ℤ least) × (greatest ≤ℤ pos 2047)
Reaches count (Upper field) = field < count
Reaches count (Based offset base) = (offset < count) × (base < count)
Reaches count (Address base) = base < count
Reaches count (Target field reach) = (field < count) × (reach ≤ℤ pos 524288)
Reaches count (Configuration field greatest) = (field < count) × (greatest ≤ℤ pos 4095)
Reaches count (Mask field) = field < count

abbrev pub AllReach : ℕ → List Slot → Type 0
AllReach count [] = Unit {0}
AllReach count (slot ∷ slots) = Reaches count slot × AllReach count slots
