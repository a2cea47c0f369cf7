-- The names that an algorithm's text gives: the word after `input`, or after `func`, at the beginning of a line.
-- This project's own.
use Rattle.std.specs.Prelude.{ℕ, Bool, true, false, if◌then◌else◌, List, [], ◌∷◌, Option, Some, None, Result, Ok, Err, slice_get}
use Rattle.line_text.specs.Lines.{lines_of}
use Rattle.halide_parser_syntax.specs.declared.faults.ParseFault.{ParseFault}
use Rattle.halide_parser_syntax.specs.declared.tokens.Token.{Token}
use Rattle.halide_parser_syntax.specs.declared.tokens.Token.TheVariants as t
use Rattle.halide_parser_syntax.specs.Tokens.{tokens_of}
use Rattle.hrv_map.specs.declared.names.NameKind.{NameKind}
use Rattle.hrv_map.specs.declared.names.NameKind.TheVariants as kinds
use Rattle.hrv_map.specs.declared.names.SourceNames.{SourceNames}

-- Lines of this kind begin with the token.
abbrev pub begins : NameKind → Token → Bool
begins kinds.Inputs t.Input = true
begins kinds.Funcs t.Func = true
begins kind token = false

abbrev pub word_in : Token → Option (List ℕ)
word_in (t.Name name) = Some name
word_in token = None

-- what tokens name, if their line is of this kind
abbrev pub name_in : NameKind → List Token → Option (List ℕ)
name_in kind [] = None
name_in kind (first ∷ []) = None
name_in kind (first ∷ second ∷ others) = if begins kind first then word_in second else None

abbrev pub name_by : NameKind → Result (List Token) ParseFault → Option (List ℕ)
name_by kind (Ok tokens) = name_in kind tokens
name_by kind (Err fault) = None

abbrev pub and_names : Option (List ℕ) → List (List ℕ) → List (List ℕ)
and_names None names = names
and_names (Some name) names = name ∷ names

-- the names of this kind in lines
unfoldable pub names_in : NameKind → List (List ℕ) → List (List ℕ)
names_in kind [] = []
names_in kind (line ∷ lines) = and_names (name_by kind (tokens_of line)) (names_in kind lines)

-- the names of all inputs and Funcs, each in order of the text
abbrev pub names_of : List ℕ → SourceNames
names_of text = record { inputs = names_in kinds.Inputs (lines_of text); funcs = names_in kinds.Funcs (lines_of text) }

abbrev pub or_none : Option (List ℕ) → List ℕ
or_none None = []
or_none (Some name) = name

-- the name at a place
abbrev pub name_at : List (List ℕ) → ℕ → List ℕ
name_at names index = or_none (slice_get names index)
