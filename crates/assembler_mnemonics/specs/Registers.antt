-- How registers are written: a letter and a number from 0 to 31 without a leading zero.
-- RISC-V Unprivileged ISA 20191213, section 2.1, and Vector Extension 1.0, section 3.1.
use Rattle.std.specs.Prelude.{ℕ, ◌+◌, ◌*◌, ◌-◌, ◌==◌, ◌&&◌, not, nat_lt, if◌then◌else◌, List, [], ◌∷◌, Option, Some, None}
use Rattle.std.specs.Fmt.{decimal}
use Rattle.line_text.specs.Lines.{is_digit}

-- the letters `x` of an integer register and `v` of a vector register
abbrev pub integer_letter : ℕ
integer_letter = 120

abbrev pub vector_letter : ℕ
vector_letter = 118

-- how the register of a number is written
abbrev pub register_text : ℕ → ℕ → List ℕ
register_text letter number = letter ∷ decimal number

-- the number of the register that a word names, if it names one
unfoldable pub register_number : ℕ → List ℕ → Option ℕ
register_number letter (first ∷ d ∷ []) = if first == letter && is_digit d then Some (d - 48) else None
register_number letter (first ∷ d ∷ e ∷ []) =
    if first == letter && is_digit d && not (d == 48) && is_digit e && nat_lt ((d - 48) * 10 + (e - 48)) 32
    then Some ((d - 48) * 10 + (e - 48)) else None
register_number letter word = None
