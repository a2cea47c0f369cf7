-- A line read from its tokens, its expressions by an algebra.
-- This project's own.
use Rattle.std.specs.Prelude.{ℕ, Bool, true, false, List, [], ◌∷◌, codes, Option, Some, None, Result, Ok, Err}
use Rattle.std.specs.Str.{bytes_eq}
use Rattle.line_text.specs.Lines.{◌>>=◌}
use Rattle.halide_parser_syntax.specs.declared.faults.ParseFault.{ParseFault}
use Rattle.halide_parser_syntax.specs.declared.faults.ParseFault.TheVariants.{Syntax}
use Rattle.halide_parser_syntax.specs.declared.tokens.Token.{Token}
use Rattle.halide_parser_syntax.specs.declared.tokens.Token.TheVariants as t
use Rattle.halide_parser_syntax.specs.declared.tokens.SumOperator.TheVariants.{Subtract}
use Rattle.halide_parser_syntax.specs.declared.lines.NamedExtents.{NamedExtents}
use Rattle.halide_parser_syntax.specs.declared.lines.ReductionBounds.{ReductionBounds}
use Rattle.halide_parser_syntax.specs.declared.lines.AlgorithmLine.{AlgorithmLine}
use Rattle.halide_parser_syntax.specs.declared.lines.AlgorithmLine.TheVariants as line
use Rattle.halide_parser_syntax.specs.inner.Algebra.{Algebra, writing, made_line}
use Rattle.halide_parser_syntax.specs.Grammar.{Written}
use Rattle.halide_parser_syntax.specs.inner.Machine.{expression}

-- a value and the tokens after it
abbrev pub Read : Type 0 → Type 0
Read A = Result (A × List Token) ParseFault

-- name number [number]
unfoldable pub extents : List Token → Read NamedExtents
extents (t.Name name ∷ t.Number width ∷ t.Number height ∷ rest) = Ok (record { name = name; width = width; height = Some height }, rest)
extents (t.Name name ∷ t.Number width ∷ rest) = Ok (record { name = name; width = width; height = None }, rest)
extents _ = Err Syntax

-- the word after an input's extents
abbrev pub kind_by : Bool → Result Bool ParseFault
kind_by true = Ok true
kind_by false = Err Syntax

-- [u8], and nothing else
unfoldable pub kind : List Token → Result Bool ParseFault
kind [] = Ok false
kind (t.Name word ∷ []) = kind_by (bytes_eq word (codes "u8"))
kind _ = Err Syntax

-- after the minimum
abbrev pub bounds_from : List ℕ → Bool → List Token → Read ReductionBounds
bounds_from name is_negative (t.Number minimum ∷ t.Number extent ∷ rest) = Ok (
  record {
    name = name;
    is_negative = is_negative;
    minimum = minimum;
    extent =
        extent;
  },
  rest,
)
bounds_from name is_negative _ = Err Syntax

abbrev pub bounds_behind : List ℕ → List Token → Read ReductionBounds
bounds_behind name (t.Sum Subtract ∷ rest) = bounds_from name true rest
bounds_behind name rest = bounds_from name false rest

-- name [-] number number
unfoldable pub bounds : List Token → Read ReductionBounds
bounds (t.Name name ∷ rest) = bounds_behind name rest
bounds _ = Err Syntax

abbrev pub nothing_left : {A : Type 0} → A → List Token → Result A ParseFault
nothing_left value [] = Ok value
nothing_left value _ = Err Syntax

-- [, rvar], and nothing else
unfoldable pub more_bounds : List Token → Result (Option ReductionBounds) ParseFault
more_bounds [] = Ok None
more_bounds (t.Comma ∷ rest) = bounds rest >>= λ second. nothing_left (Some second.0) second.1
more_bounds _ = Err Syntax

-- the arguments of a Func, and what is after the `=`
unfoldable pub arguments : List Token → Read (List ℕ × Option (List ℕ))
arguments (t.Name first ∷ t.Close ∷ t.Assign ∷ rest) = Ok ((first, None), rest)
arguments (t.Name first ∷ t.Comma ∷ t.Name second ∷ t.Close ∷ t.Assign ∷ rest) = Ok ((first, Some second), rest)
arguments _ = Err Syntax

-- after `)` and `=`
unfoldable pub assigned : List Token → Result (List Token) ParseFault
assigned (t.Close ∷ t.Assign ∷ rest) = Ok rest
assigned _ = Err Syntax

-- after `over`
unfoldable pub over : List Token → Result (List Token) ParseFault
over (t.Over ∷ rest) = Ok rest
over _ = Err Syntax

abbrev pub or_syntax : {A : Type 0} → Option A → Result A ParseFault
or_syntax None = Err Syntax
or_syntax (Some value) = Ok value

module _ {V : Type 0} (alg : Algebra V) where
  -- an expression and the tokens after it
  unfoldable pub read : List Token → Read V
  read tokens = or_syntax (expression alg tokens)

  -- [, expr]
  unfoldable pub index : List Token → Read (Option V)
  index (t.Comma ∷ rest) = read rest >>= λ value. Ok (Some value.0, value.1)
  index tokens = Ok (None, tokens)

  -- after `func name (`
  unfoldable pub definition : List ℕ → List Token → Result (AlgorithmLine V) ParseFault
  definition name tokens =
      arguments tokens >>= λ named. read named.1 >>= λ right.
      nothing_left (line.Func (record { name = name; first_argument = named.0.0; second_argument = named.0.1; right = right.0 })) right.1

  -- after `update name (`
  unfoldable pub change : List ℕ → List Token → Result (AlgorithmLine V) ParseFault
  change name tokens =
      read tokens >>= λ x. index x.1 >>= λ y. assigned y.1 >>= λ behind. read behind >>= λ right. over right.1 >>= λ ranges. bounds ranges >>= λ first.
      more_bounds first.1 >>= λ second.
      Ok (line.Update (record { name = name; left_x = x.0; left_y = y.0; right = right.0; first = first.0; second = second }))

  -- what the tokens of a line say
  unfoldable pub read_line : List Token → Result (AlgorithmLine V) ParseFault
  read_line [] = Ok line.Blank
  read_line (t.Input ∷ rest) = extents rest >>= λ e. kind e.1 >>= λ is_bytes. Ok (line.Input e.0 is_bytes)
  read_line (t.Output ∷ rest) = extents rest >>= λ e. nothing_left (line.Output e.0) e.1
  read_line (t.Func ∷ t.Name name ∷ t.Open ∷ rest) = definition name rest
  read_line (t.Update ∷ t.Name name ∷ t.Open ∷ rest) = change name rest
  read_line _ = Err Syntax

-- what an algebra makes of a line that was read
abbrev pub with_made : {V : Type 0} → Algebra V → Result (AlgorithmLine Written) ParseFault → Result (AlgorithmLine V) ParseFault
with_made alg given = given >>= λ w. Ok (made_line alg w)

abbrev pub read_or_none : {A : Type 0} → Result A ParseFault → Option A
read_or_none (Ok value) = Some value
read_or_none (Err fault) = None

-- the line of the grammar that tokens spell, if they spell one
unfoldable pub line_of : List Token → Option (AlgorithmLine Written)
line_of tokens = read_or_none (read_line writing tokens)
