-- What the operands of a form give, and the fields with it.
-- This project's own.
use Rattle.std.specs.Prelude.{ℕ, ℤ, pos, negsuc, ◌≡◌, ◌≤ℤ◌, ◌-ℤ◌, ◌⊎◌, List, [], ◌∷◌, ◌++◌, slice_set}
use Rattle.assembler_mnemonics.specs.declared.slots.Slot.{Slot}
use Rattle.assembler_mnemonics.specs.declared.slots.Slot.TheVariants.{Integer, Vector, MaskRegister, Number, Upper, Based, Address, Target, Configuration, Mask}

-- numbers put into fields, one after the other: each pair is a field and its number
abbrev pub placed : List ℤ → List (ℕ × ℤ) → List ℤ
placed fields [] = fields
placed fields (pair ∷ pairs) = placed (slice_set fields pair.0 pair.1) pairs

-- one field with a number between two numbers, both among them
abbrev pub GivesOne : ℕ → ℤ → ℤ → List (ℕ × ℤ) → Type 0
GivesOne field least greatest pairs =
    (number : ℤ) × (pairs ≡ (field, number) ∷ []) × (least ≤ℤ number) × (number ≤ℤ greatest)

-- an operand of the slot may give these fields these numbers
abbrev pub Gives : Slot → List (ℕ × ℤ) → Type 0
Gives (Integer field) pairs = GivesOne field (pos 0) (pos 31) pairs
Gives (Vector field) pairs = GivesOne field (pos 0) (pos 31) pairs
Gives MaskRegister pairs = pairs ≡ []
Gives (Number field least greatest) pairs = GivesOne field least greatest pairs
Gives (Upper field) pairs = GivesOne field (pos 0) (pos 1048575) pairs
Gives (Based offset base) pairs =
    (own : List (ℕ × ℤ)) × (other : List (ℕ × ℤ)) × GivesOne offset (negsuc 2047) (pos 2047) own × GivesOne base (pos 0) (pos 31) other × (pairs ≡ own ++ other)
Gives (Address base) pairs = GivesOne base (pos 0) (pos 31) pairs
Gives (Target field reach) pairs = GivesOne field (pos 0 -ℤ reach) (reach -ℤ pos 1) pairs
Gives (Configuration field greatest) pairs = GivesOne field (pos 0) greatest pairs
Gives (Mask field) pairs = (pairs ≡ []) ⊎ GivesOne field (pos 0) (pos 0) pairs

-- operands of the slots, one for each, may give these fields these numbers
abbrev pub AllGive : List Slot → List (ℕ × ℤ) → Type 0
AllGive [] pairs = pairs ≡ []
AllGive (slot ∷ slots) pairs =
    (own : List (ℕ × ℤ)) × (others : List (ℕ × ℤ)) × Gives slot own × AllGive slots others × (pairs ≡ own ++ others)
