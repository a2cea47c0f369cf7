-- The variables of a line, by its tokens alone.
-- This project's own.
use Rattle.std.specs.Prelude.{ℕ, List, [], ◌∷◌, Option, Some, None}
use Rattle.halide_pipeline.specs.declared.definitions.Func.{Func}
use Rattle.halide_parser_syntax.specs.declared.tokens.Token.{Token}
use Rattle.halide_parser_syntax.specs.declared.tokens.Token.TheVariants as t
use Rattle.halide_parser_syntax.specs.declared.tokens.SumOperator.TheVariants.{Subtract}
use Rattle.halide_parser.specs.declared.readers.AlgorithmReader.{AlgorithmReader}
use Rattle.halide_parser.specs.declared.scopes.NameScope.{NameScope}
use Rattle.halide_parser.specs.Expressions.{func, func_place, empty}

-- after the first `over`
abbrev pub behind_over : List Token → List Token
behind_over [] = []
behind_over (t.Over ∷ rest) = rest
behind_over (token ∷ rest) = behind_over rest

abbrev pub first_name : List Token → Option (List ℕ)
first_name (t.Name name ∷ rest) = Some name
first_name _ = None

abbrev pub second_argument : List Token → Option (List ℕ)
second_argument (t.Comma ∷ rest) = first_name rest
second_argument _ = None

-- of a second reduction variable, after the numbers of the first
abbrev pub name_behind : List Token → Option (List ℕ)
name_behind (t.Number minimum ∷ t.Number extent ∷ t.Comma ∷ rest) = first_name rest
name_behind _ = None

abbrev pub second_name : List Token → Option (List ℕ)
second_name (t.Sum Subtract ∷ rest) = name_behind rest
second_name tokens = name_behind tokens

-- after `func name (`
abbrev pub definition_scope : List Token → NameScope
definition_scope (t.Name first ∷ rest) = record {
  first_argument = Some first;
  second_argument = second_argument rest;
  first_reduction =
      None;
  second_reduction = None;
  own = None;
}
definition_scope _ = empty

abbrev pub arguments_of : Option Func → Option ℕ → NameScope
arguments_of None own = record { first_argument = None; second_argument = None; first_reduction = None; second_reduction = None; own = own }
arguments_of (Some f) own = record {
  first_argument = Some f.first_argument;
  second_argument = f.second_argument;
  first_reduction = None;
  second_reduction =
      None;
  own = own;
}

-- with the reduction variables that stand after `over`
abbrev pub with_ranges : NameScope → List Token → NameScope
with_ranges scope (t.Name first ∷ rest) = record {
  first_argument = scope.first_argument;
  second_argument = scope.second_argument;
  first_reduction =
      Some first;
  second_reduction = second_name rest;
  own = scope.own;
}
with_ranges scope _ = scope

abbrev pub update_scope : AlgorithmReader → List ℕ → List Token → NameScope
update_scope reader name ranges = with_ranges (arguments_of (func reader name) (func_place reader name)) ranges

-- the variables of the line that tokens spell, if they spell one
abbrev pub scope_ahead : AlgorithmReader → List Token → NameScope
scope_ahead reader (t.Func ∷ t.Name name ∷ t.Open ∷ rest) = definition_scope rest
scope_ahead reader (t.Update ∷ t.Name name ∷ t.Open ∷ rest) = update_scope reader name (behind_over rest)
scope_ahead reader _ = empty
