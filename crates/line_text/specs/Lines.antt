-- Texts: bytes, numbers, lines and the first faulty line. A line feed ends a line; a final one opens none.
-- This project's own.
use Rattle.std.specs.Prelude.{◌≢◌, ℕ, Bool, not, ◌==◌, if◌then◌else◌, List, [], ◌∷◌, ◌++◌, take, drop, true, ◌||◌, ◌&&◌, nat_le, ◌≡◌, Result, Ok, Err, ◌+◌}
use Rattle.std.specs.Prelude.{length, ◌-◌, ◌*◌, fold}
use Rattle.std.specs.List.{AllByRecursion, flat_map, prefix_len}
use Rattle.std.specs.Char.{is_ascii_alphabetic, is_ascii_digit}
use Rattle.line_text.specs.declared.read_errors.ReadError.{ReadError}
use Rattle.line_text.specs.declared.read_errors.ReadError.TheVariants as errors
use Rattle.line_text.specs.declared.read_errors.LocatedError.{LocatedError}
use Rattle.line_text.specs.declared.read_errors.LocatedError.TheVariants as places

-- a byte in front of lines joins the first of them or opens one
abbrev pub joined : ℕ → List (List ℕ) → List (List ℕ)
joined byte [] = (byte ∷ []) ∷ []
joined byte (line ∷ lines) = (byte ∷ line) ∷ lines

-- the lines, each without its line feed
unfoldable pub lines_of : List ℕ → List (List ℕ)
lines_of [] = []
lines_of (byte ∷ text) = if byte == 10 then [] ∷ lines_of text else joined byte (lines_of text)

-- a byte other than a line feed
abbrev pub is_in_line : ℕ → Bool
is_in_line byte = not (byte == 10)

abbrev pub after_first : List ℕ → List ℕ
after_first [] = []
after_first (byte ∷ bytes) = bytes

-- the first line, and what follows its line feed
abbrev pub first_line : List ℕ → List ℕ × List ℕ
first_line text = (take (prefix_len is_in_line text) text, after_first (drop (prefix_len is_in_line text) text))

-- There is no line feed.
abbrev pub IsLine : List ℕ → Type 0
IsLine bytes = AllByRecursion (λ byte. byte ≢ 10) bytes

-- the text of lines that a line feed ends
abbrev pub text_of : List (List ℕ) → List ℕ
text_of lines = flat_map (λ line. line ++ 10 ∷ []) lines

-- ---- Classes of bytes, and what is left of a line after its blanks.

-- a space or a tab
abbrev pub is_blank : ℕ → Bool
is_blank byte = byte == 32 || byte == 9

-- a decimal digit
abbrev pub is_digit : ℕ → Bool
is_digit byte = is_ascii_digit byte

-- a decimal digit, or a letter from A to F, of either case
abbrev pub is_hexadecimal : ℕ → Bool
is_hexadecimal byte = is_ascii_digit byte || (nat_le 65 byte && nat_le byte 70) || (nat_le 97 byte && nat_le byte 102)

-- a letter or `_`
abbrev pub begins_name : ℕ → Bool
begins_name byte = is_ascii_alphabetic byte || byte == 95

-- a letter, a decimal digit or `_`
abbrev pub continues_name : ℕ → Bool
continues_name byte = begins_name byte || is_ascii_digit byte

-- the bytes from the first that is no blank
abbrev pub skip_blanks : List ℕ → List ℕ
skip_blanks bytes = drop (prefix_len is_blank bytes) bytes

-- Nothing but a comment is left: there are no bytes, or the first is `#`.
abbrev pub ends : List ℕ → Bool
ends [] = true
ends (byte ∷ bytes) = byte == 35

-- ---- Words for functions that return a value, a fault or that memory ran out.

-- what comes next, unless there is a fault
infixl 10 ◌>>=◌
abbrev pub ◌>>=◌ : {A B F : Type 0} → Result A F → (A → Result B F) → Result B F
(Ok value) >>= next = next value
(Err fault) >>= next = Err fault

-- The error is what was wanted, unless memory ran out.
abbrev pub Fails : {A F : Type 0} → ReadError F → Result A F → Type 0
Fails errors.Memory wanted = Unit {0}
Fails (errors.Fault fault) wanted = wanted ≡ Err fault

-- What a function returned, seen by view, is what was wanted, unless memory ran out.
abbrev pub Gives : {A B F : Type 0} → (A → B) → Result A (ReadError F) → Result B F → Type 0
Gives view (Ok value) wanted = wanted ≡ Ok (view value)
Gives view (Err error) wanted = Fails error wanted

-- the error of the line with this number
abbrev pub at_line : {F : Type 0} → ℕ → ReadError F → LocatedError F
at_line number errors.Memory = places.Memory
at_line number (errors.Fault fault) = places.Fault number fault

-- The error is what was wanted, unless memory ran out.
abbrev pub FailsAt : {A F : Type 0} → LocatedError F → Result A (ℕ × F) → Type 0
FailsAt places.Memory wanted = Unit {0}
FailsAt (places.Fault number fault) wanted = wanted ≡ Err (number, fault)

-- What a function of a whole text returned, seen by view, is what was wanted, unless memory ran out.
abbrev pub GivesLocated : {A B F : Type 0} → (A → B) → Result A (LocatedError F) → Result B (ℕ × F) → Type 0
GivesLocated view (Ok value) wanted = wanted ≡ Ok (view value)
GivesLocated view (Err error) wanted = FailsAt error wanted

-- ---- A text read line by line, up to the first line that is faulty.

-- what follows a line, or its fault with its number
abbrev pub located : {S A F : Type 0} → ℕ → Result S F → (S → Result A (ℕ × F)) → Result A (ℕ × F)
located number (Ok state) next = next state
located number (Err fault) next = Err (number, fault)

-- The lines in turn, of which the first has this number: what they make of a state, or the first
-- line that is faulty.
unfoldable pub taken_from : {S F : Type 0} → (S → List ℕ → Result S F) → ℕ → S → List (List ℕ) → Result S (ℕ × F)
taken_from takes number state [] = Ok state
taken_from takes number state (line ∷ lines) = located number (takes state line) (λ next. taken_from takes (number + 1) next lines)

-- What a reader did at a line is what was wanted, unless memory ran out.
abbrev pub Takes : {S F : Type 0} → Result S F → Result (Unit {0}) (ReadError F) → S → Type 0
Takes wanted (Ok done) new = wanted ≡ Ok new
Takes wanted (Err error) new = Fails error wanted

-- What a reader did at all lines is what was wanted, unless memory ran out.
abbrev pub Reads : {S F : Type 0} → Result S (ℕ × F) → Result ℕ (LocatedError F) → S → Type 0
Reads wanted (Ok count) new = wanted ≡ Ok new
Reads wanted (Err error) new = FailsAt error wanted

-- In lines of which the first has a number, the line with this number is the first that is faulty,
-- and this is its fault: the lines before it make a state, and in that state the line has the fault.
pub record IsFirstFault {S F : Type 0} (takes : S → List ℕ → Result S F) (first : ℕ) (state : S) (lines : List (List ℕ)) (number : ℕ) (fault : F) : Type 0 where
  pub before : List (List ℕ)
  pub line : List ℕ
  pub after : List (List ℕ)
  pub reached : S
  pub lines_are : lines ≡ before ++ line ∷ after
  pub number_is : number ≡ first + length before
  pub taken : taken_from takes first state before ≡ Ok reached
  pub refused : takes reached line ≡ Err fault

-- Lines are taken up to any place, and then from there.
abbrev pub TakesInTurn : {S F : Type 0} → (S → List ℕ → Result S F) → Type 0
TakesInTurn takes =
    (number : ℕ) (state : _) (lines others : List (List ℕ))
    → taken_from takes number state (lines ++ others) ≡ (taken_from takes number state lines >>= λ reached. taken_from takes (number + length lines) reached
    others)

-- ---- The numbers that digits spell.

-- the number that decimal digits spell
abbrev pub decimal_number : List ℕ → ℕ
decimal_number digits = fold (λ number byte. number * 10 + (byte - 48)) 0 digits

-- what a hexadecimal digit stands for
abbrev pub hexadecimal_value : ℕ → ℕ
hexadecimal_value byte =
    if nat_le 97 byte then byte - 97 + 10
    else (if nat_le 65 byte then byte - 65 + 10 else byte - 48)

-- the number that hexadecimal digits spell
abbrev pub hexadecimal_number : List ℕ → ℕ
hexadecimal_number digits = fold (λ number byte. number * 16 + hexadecimal_value byte) 0 digits
