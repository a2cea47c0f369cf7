-- The faults of an assembly text, and the least of several in one line.
-- This project's own.
use Rattle.std.specs.Prelude.{ℕ, nat_le, if◌then◌else◌, Bool, Option, Some, None, Result, Ok, Err}
use Rattle.assembler.specs.declared.faults.AsmFault.{AsmFault}
use Rattle.assembler.specs.declared.faults.AsmFault.TheVariants.{Syntax, Mnemonic, Register, Immediate, UnknownLabel, LabelTwice, Target, TooLarge}

abbrev pub number_of : AsmFault → ℕ
number_of Syntax = 1
number_of Mnemonic = 2
number_of Register = 3
number_of Immediate = 4
number_of UnknownLabel = 5
number_of LabelTwice = 6
number_of Target = 7
number_of TooLarge = 8

abbrev pub lesser : AsmFault → AsmFault → AsmFault
lesser f g = if nat_le (number_of f) (number_of g) then f else g

-- two judgements of one line: both values, or the least fault
abbrev pub both : {A B : Type 0} → Result A AsmFault → Result B AsmFault → Result (A × B) AsmFault
both (Ok a) (Ok b) = Ok (a, b)
both (Ok a) (Err g) = Err g
both (Err f) (Ok b) = Err f
both (Err f) (Err g) = Err (lesser f g)

-- the value, or this fault where there is none
abbrev pub or_fault : {A : Type 0} → AsmFault → Option A → Result A AsmFault
or_fault fault (Some a) = Ok a
or_fault fault None = Err fault

-- nothing, or this fault where a test fails
abbrev pub unless : AsmFault → Bool → Result (Unit {0}) AsmFault
unless fault test = if test then Ok tt else Err fault
