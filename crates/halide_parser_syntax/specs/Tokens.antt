-- The tokens of a line, each the longest that is there, up to the comment.
-- This project's own.
use Rattle.std.specs.Prelude.{ℕ, zero, suc, ◌+◌, min, ◌==◌, if◌then◌else◌, List, [], ◌∷◌, length, take, drop, codes, Result, Ok, Err}
use Rattle.std.specs.List.{prefix_len}
use Rattle.std.specs.Str.{bytes_eq}
use Rattle.line_text.specs.Lines.{begins_name, continues_name, is_digit, skip_blanks, ends, decimal_number, ◌>>=◌}
use Rattle.halide_parser_syntax.specs.declared.faults.ParseFault.{ParseFault}
use Rattle.halide_parser_syntax.specs.declared.faults.ParseFault.TheVariants.{Syntax}
use Rattle.halide_parser_syntax.specs.declared.tokens.Token.{Token}
use Rattle.halide_parser_syntax.specs.declared.tokens.Token.TheVariants as t
use Rattle.halide_parser_syntax.specs.declared.tokens.ProductOperator.TheVariants as product
use Rattle.halide_parser_syntax.specs.declared.tokens.SumOperator.TheVariants as sum
use Rattle.halide_parser_syntax.specs.declared.tokens.CompareOperator.TheVariants as compare
use Rattle.halide_parser_syntax.specs.declared.tokens.TwoFunction.TheVariants as two
use Rattle.halide_parser_syntax.specs.declared.tokens.ThreeFunction.TheVariants as three

-- a reserved word, or a name
abbrev pub word : List ℕ → Token
word bytes =
    if bytes_eq bytes (codes "input") then t.Input
    else if bytes_eq bytes (codes "func") then t.Func
    else if bytes_eq bytes (codes "update") then t.Update
    else if bytes_eq bytes (codes "output") then t.Output
    else if bytes_eq bytes (codes "over") then t.Over
    else if bytes_eq bytes (codes "min") then t.Two two.Minimum
    else if bytes_eq bytes (codes "max") then t.Two two.Maximum
    else if bytes_eq bytes (codes "clamp") then t.Three three.Clamp
    else if bytes_eq bytes (codes "select") then t.Three three.Select
    else t.Name bytes

-- the number that digits spell, or 2 ^ 31 where that is more
abbrev pub number : List ℕ → ℕ
number digits = min (decimal_number digits) (0x7fffffff + 1)

-- the first where `=` follows, which is then taken too, else the second
abbrev pub then_equals : List ℕ → Token → Token → Token × List ℕ
then_equals [] double single = (single, [])
then_equals (byte ∷ rest) double single = if byte == 61 then (double, rest) else (single, byte ∷ rest)

abbrev pub equals_after : List ℕ → Token → Result (Token × List ℕ) ParseFault
equals_after [] token = Err Syntax
equals_after (byte ∷ rest) token = if byte == 61 then Ok (token, rest) else Err Syntax

-- the marks ( ) , + - * / % = == < <= > >= !=
abbrev pub mark : ℕ → List ℕ → Result (Token × List ℕ) ParseFault
mark byte rest =
    if byte == 40 then Ok (t.Open, rest)
    else if byte == 41 then Ok (t.Close, rest)
    else if byte == 44 then Ok (t.Comma, rest)
    else if byte == 43 then Ok (t.Sum sum.Add, rest)
    else if byte == 45 then Ok (t.Sum sum.Subtract, rest)
    else if byte == 42 then Ok (t.Product product.Multiply, rest)
    else if byte == 47 then Ok (t.Product product.Divide, rest)
    else if byte == 37 then Ok (t.Product product.Remainder, rest)
    else if byte == 61 then Ok (then_equals rest (t.Compare compare.Equal) t.Assign)
    else if byte == 60 then Ok (then_equals rest (t.Compare compare.LessOrEqual) (t.Compare compare.Less))
    else if byte == 62 then Ok (then_equals rest (t.Compare compare.GreaterOrEqual) (t.Compare compare.Greater))
    else if byte == 33 then equals_after rest (t.Compare compare.NotEqual)
    else Err Syntax

-- the token at the front, and what follows it
unfoldable pub front_token : List ℕ → Result (Token × List ℕ) ParseFault
front_token [] = Err Syntax
front_token (byte ∷ rest) =
    if begins_name byte then (let n = prefix_len continues_name (byte ∷ rest) in Ok (word (take n (byte ∷ rest)), drop n (byte ∷ rest)))
    else if is_digit byte then (let n = prefix_len is_digit (byte ∷ rest) in Ok (t.Number (number (take n (byte ∷ rest))), drop n (byte ∷ rest)))
    else mark byte rest

-- the tokens of bytes that are fewer than the first number
unfoldable pub tokens_from : ℕ → List ℕ → Result (List Token) ParseFault
tokens_from zero bytes = Err Syntax
tokens_from (suc n) bytes =
    if ends (skip_blanks bytes) then Ok []
    else (front_token (skip_blanks bytes) >>= λ first. tokens_from n first.1 >>= λ others. Ok (first.0 ∷ others))

unfoldable pub tokens_of : List ℕ → Result (List Token) ParseFault
tokens_of line = tokens_from (suc (length line)) line
