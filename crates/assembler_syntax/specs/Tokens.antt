-- The tokens of a line, each the longest that is there, up to the comment.
-- This project's own, after the assembly syntax of RISC-V Unprivileged ISA 20191213, chapter 25.
use Rattle.std.specs.Prelude.{ℕ, zero, suc, ◌+◌, ◌%◌, ◌^◌, ◌-◌, ◌==◌, ◌||◌, ◌&&◌, Bool, nat_lt, nat_le, if◌then◌else◌, ℤ, pos, ◌-ℤ◌, List, [], ◌∷◌, length}
use Rattle.std.specs.Prelude.{take, drop}
use Rattle.std.specs.List.{prefix_len, list_all}
use Rattle.line_text.specs.Lines.{begins_name, continues_name, is_digit, is_hexadecimal, skip_blanks, ends, decimal_number, hexadecimal_number}
use Rattle.assembler_syntax.specs.declared.tokens.AssemblyToken.{AssemblyToken}
use Rattle.assembler_syntax.specs.declared.tokens.AssemblyToken.TheVariants as t

-- ---- words: letters, digits, `_` and `.`, of which a digit isn't the first

abbrev pub begins_word : ℕ → Bool
begins_word byte = begins_name byte || byte == 46

abbrev pub continues_word : ℕ → Bool
continues_word byte = continues_name byte || byte == 46

-- ---- numbers

-- A number above 2 ^ 32 is above every limit. It counts as 2 ^ 32 or the next, whichever is odd or even as it is.
unfoldable pub capped : ℕ → ℕ
capped n = if nat_le n (2 ^ 32) then n else 2 ^ 32 + n % 2

-- bytes that are decimal digits, or `0x` and hexadecimal digits, are a number; others are none
unfoldable pub prefixed : List ℕ → AssemblyToken
prefixed (zero_digit ∷ x ∷ d ∷ digits) =
    if zero_digit == 48 && x == 120 && list_all is_hexadecimal (d ∷ digits) then t.Number (pos (capped (hexadecimal_number (d ∷ digits))))
    else t.Other
prefixed bytes = t.Other

unfoldable pub number_token : List ℕ → AssemblyToken
number_token bytes = if list_all is_digit bytes then t.Number (pos (capped (decimal_number bytes))) else prefixed bytes

-- after a minus stand decimal digits, at least one
unfoldable pub negative_token : List ℕ → AssemblyToken
negative_token [] = t.Other
negative_token (d ∷ digits) = if list_all is_digit (d ∷ digits) then t.Number (pos 0 -ℤ pos (capped (decimal_number (d ∷ digits)))) else t.Other

-- the marks , : ( )
abbrev pub mark : ℕ → AssemblyToken
mark byte =
    if byte == 44 then t.Comma
    else if byte == 58 then t.Colon
    else if byte == 40 then t.Open
    else if byte == 41 then t.Close
    else t.Other

-- how many of the bytes are of a word
abbrev pub span : List ℕ → ℕ
span bytes = prefix_len continues_word bytes

-- the token at the front, and what follows it
unfoldable pub front_token : List ℕ → AssemblyToken × List ℕ
front_token [] = (t.Other, [])
front_token (byte ∷ rest) =
    if begins_word byte then (t.Word (take (span (byte ∷ rest)) (byte ∷ rest)), drop (span (byte ∷ rest)) (byte ∷ rest))
    else if is_digit byte then (number_token (take (span (byte ∷ rest)) (byte ∷ rest)), drop (span (byte ∷ rest)) (byte ∷ rest))
    else if byte == 45 then (negative_token (take (span rest) rest), drop (span rest) rest)
    else (mark byte, rest)

-- the tokens of bytes that are fewer than the first number
unfoldable pub tokens_from : ℕ → List ℕ → List AssemblyToken
tokens_from zero bytes = []
tokens_from (suc n) bytes =
    if ends (skip_blanks bytes) then []
    else (front_token (skip_blanks bytes)).0 ∷ tokens_from n (front_token (skip_blanks bytes)).1

-- the tokens of a line; where bytes stand that are no token, `Other` stands for them
unfoldable pub tokens_of : List ℕ → List AssemblyToken
tokens_of line = tokens_from (suc (length line)) line
