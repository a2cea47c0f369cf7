-- What a line of a talk with the debugger commands: its words, and the numbers that they spell.
-- This project's own.
use Rattle.std.specs.Prelude.{ℕ, ◌^◌, ◌==◌, ◌&&◌, Bool, nat_lt, if◌then◌else◌, List, [], ◌∷◌, codes, Option, Some, None}
use Rattle.std.specs.Prelude.{option_and_then}
use Rattle.std.specs.List.{list_all}
use Rattle.std.specs.Str.{bytes_eq}
use Rattle.line_text.specs.Lines.{is_digit, is_hexadecimal, joined, decimal_number, hexadecimal_number}
use Rattle.hrv_engines.specs.declared.commands.Command.{Command}
use Rattle.hrv_engines.specs.declared.commands.Command.TheVariants.{Goto, Next, Back, Forward, Reverse, Break, Watch, Register, Vector, Word, Status, Quit}

-- ---- words

-- the words of a line: what is before, between and after its spaces (32), so one more than there are spaces
unfoldable pub words_of : List ℕ → List (List ℕ)
words_of [] = [] ∷ []
words_of (byte ∷ line) = if byte == 32 then [] ∷ words_of line else joined byte (words_of line)

-- ---- numbers

-- a number of 2 ^ 64 or more is none
abbrev pub below_most : ℕ → Option ℕ
below_most number = if nat_lt number (2 ^ 64) then Some number else None

-- at least one digit, and nothing but digits
abbrev pub spelled_by : (ℕ → Bool) → (List ℕ → ℕ) → List ℕ → Option ℕ
spelled_by is_one value [] = None
spelled_by is_one value (digit ∷ digits) = if list_all is_one (digit ∷ digits) then below_most (value (digit ∷ digits)) else None

abbrev pub decimal_of : List ℕ → Option ℕ
decimal_of digits = spelled_by is_digit decimal_number digits

abbrev pub hexadecimal_of : List ℕ → Option ℕ
hexadecimal_of digits = spelled_by is_hexadecimal hexadecimal_number digits

-- decimal digits, or `0x` (48, 120) and hexadecimal digits
unfoldable pub number_of : List ℕ → Option ℕ
number_of (first ∷ second ∷ digits) =
    if first == 48 && second == 120 then hexadecimal_of digits else decimal_of (first ∷ second ∷ digits)
number_of word = decimal_of word

-- ---- commands: a name, and the numbers that it takes

unfoldable pub alone : List ℕ → Option Command
alone name =
    if bytes_eq name (codes "next") then Some Next
    else if bytes_eq name (codes "back") then Some Back
    else if bytes_eq name (codes "forward") then Some Forward
    else if bytes_eq name (codes "reverse") then Some Reverse
    else if bytes_eq name (codes "status") then Some Status
    else if bytes_eq name (codes "quit") then Some Quit
    else None

unfoldable pub with_one : List ℕ → ℕ → Option Command
with_one name number =
    if bytes_eq name (codes "goto") then Some (Goto number)
    else if bytes_eq name (codes "break") then Some (Break number)
    else if bytes_eq name (codes "watch") then Some (Watch number)
    else if bytes_eq name (codes "word") then Some (Word number)
    else None

unfoldable pub with_two : List ℕ → ℕ → ℕ → Option Command
with_two name hart number =
    if bytes_eq name (codes "reg") then Some (Register hart number)
    else if bytes_eq name (codes "vec") then Some (Vector hart number)
    else None

abbrev pub command_in : List (List ℕ) → Option Command
command_in (name ∷ []) = alone name
command_in (name ∷ one ∷ []) = option_and_then (with_one name) (number_of one)
command_in (name ∷ one ∷ two ∷ []) =
    option_and_then (λ hart. option_and_then (with_two name hart) (number_of two)) (number_of one)
command_in words = None

-- the command of a line, if it is one
unfoldable pub command_of : List ℕ → Option Command
command_of line = command_in (words_of line)
