-- What is asked of an expression as it is written, among the variables of its line and after the lines before it, and the tree that it
-- means.
-- This project's own.
use Rattle.std.specs.Prelude.{ℕ, Bool, false, not, ◌&&◌, ◌==◌, Option, Some, None, is_some, if◌then◌else◌, List, slice_get}
use Rattle.halide_pipeline.specs.declared.expressions.Variable.{Variable}
use Rattle.halide_pipeline.specs.declared.expressions.Variable.TheVariants as variables
use Rattle.halide_pipeline.specs.declared.expressions.Operation.{Operation}
use Rattle.halide_pipeline.specs.declared.expressions.Operation.TheVariants as op
use Rattle.halide_pipeline.specs.declared.expressions.Expr.{Expr}
use Rattle.halide_pipeline.specs.declared.expressions.Expr.TheVariants as e
use Rattle.halide_pipeline.specs.declared.expressions.Source.{Source}
use Rattle.halide_pipeline.specs.declared.expressions.Source.TheVariants as sources
use Rattle.halide_pipeline.specs.Expressions.{nodes}
use Rattle.halide_pipeline.specs.WellFormed.{is_alone, is_divisor, fits}
use Rattle.halide_pipeline.specs.declared.definitions.Func.{Func}
use Rattle.halide_pipeline.specs.Pipelines.{is_named, lookup}
use Rattle.halide_pipeline.specs.declared.definitions.Input.{Input}
use Rattle.halide_parser_syntax.specs.declared.tokens.ProductOperator.TheVariants as products
use Rattle.halide_parser_syntax.specs.declared.tokens.SumOperator.{SumOperator}
use Rattle.halide_parser_syntax.specs.declared.tokens.SumOperator.TheVariants as sums
use Rattle.halide_parser_syntax.specs.declared.tokens.CompareOperator.{CompareOperator}
use Rattle.halide_parser_syntax.specs.declared.tokens.CompareOperator.TheVariants as comparisons
use Rattle.halide_parser_syntax.specs.declared.tokens.TwoFunction.{TwoFunction}
use Rattle.halide_parser_syntax.specs.declared.tokens.TwoFunction.TheVariants as twos
use Rattle.halide_parser_syntax.specs.declared.tokens.ThreeFunction.TheVariants as threes
use Rattle.halide_parser_syntax.specs.Grammar.{Written, Literal, Bare, Group, Minus, Call, CallTwo, Two, Three, Product, Sum, Comparison, nesting}
use Rattle.halide_parser_syntax.specs.declared.lines.ReductionBounds.{ReductionBounds}
use Rattle.halide_parser_syntax.specs.declared.lines.Change.{Change}
use Rattle.halide_parser_syntax.specs.declared.lines.AlgorithmLine.{AlgorithmLine}
use Rattle.halide_parser.specs.declared.readers.AlgorithmReader.{AlgorithmReader}
use Rattle.halide_parser.specs.declared.scopes.NameScope.{NameScope}
use Rattle.halide_parser_syntax.specs.declared.lines.AlgorithmLine.TheVariants as line
use Rattle.halide_pipeline.specs.WellFormed as definitions

-- ---- What names stand for after some lines.

abbrev pub input_dimensions : Option Input → ℕ
input_dimensions None = 1
input_dimensions (Some input) = input.dimensions

abbrev pub func_dimensions : Option Func → ℕ
func_dimensions None = 1
func_dimensions (Some func) = definitions.dimensions func

-- how many indexes a source has
abbrev pub dimensions : AlgorithmReader → Source → ℕ
dimensions reader (sources.Input place) = input_dimensions (slice_get reader.inputs place)
dimensions reader (sources.Func place) = func_dimensions (slice_get reader.funcs place)

abbrev pub with_dimensions : AlgorithmReader → Option Source → Option (Source × ℕ)
with_dimensions reader None = None
with_dimensions reader (Some source) = Some (source, dimensions reader source)

-- the source with a name, and how many indexes it has
unfoldable pub source : AlgorithmReader → List ℕ → Option (Source × ℕ)
source reader name = with_dimensions reader (lookup name reader.names)

abbrev pub place_of : Option Source → Option ℕ
place_of (Some (sources.Func place)) = Some place
place_of _ = None

-- the place of the Func with a name
unfoldable pub func_place : AlgorithmReader → List ℕ → Option ℕ
func_place reader name = place_of (lookup name reader.names)

abbrev pub func_at : AlgorithmReader → Option ℕ → Option Func
func_at reader None = None
func_at reader (Some place) = slice_get reader.funcs place

unfoldable pub func : AlgorithmReader → List ℕ → Option Func
func reader name = func_at reader (func_place reader name)

-- ---- The variables of a line: a Func's arguments, and in an update its reduction variables.

abbrev pub empty : NameScope
empty = record { first_argument = None; second_argument = None; first_reduction = None; second_reduction = None; own = None }

-- the variable with a name
unfoldable pub variable : NameScope → List ℕ → Option Variable
variable scope name =
    if is_named scope.first_argument name then Some variables.FirstArgument
    else if is_named scope.second_argument name then Some variables.SecondArgument
    else if is_named scope.first_reduction name then Some variables.FirstReduction
    else if is_named scope.second_reduction name then Some variables.SecondReduction
    else None

-- ---- where names may stand

abbrev pub bounds_name : Option ReductionBounds → Option (List ℕ)
bounds_name None = None
bounds_name (Some bounds) = Some bounds.name

abbrev pub unknown_scope : {V : Type 0} → Option ℕ → Change V → NameScope
unknown_scope own change = record {
  first_argument = None;
  second_argument = None;
  first_reduction = Some change.first.name;
  second_reduction =
      bounds_name change.second;
  own = own;
}

abbrev pub known_scope : {V : Type 0} → Func → Option ℕ → Change V → NameScope
known_scope f own change = record {
  first_argument = Some f.first_argument;
  second_argument = f.second_argument;
  first_reduction =
      Some change.first.name;
  second_reduction = bounds_name change.second;
  own = own;
}

abbrev pub change_scope_of : {V : Type 0} → Option Func → Option ℕ → Change V → NameScope
change_scope_of None own change = unknown_scope own change
change_scope_of (Some f) own change = known_scope f own change

abbrev pub change_scope : {V : Type 0} → AlgorithmReader → Change V → NameScope
change_scope reader change = change_scope_of (func reader change.name) (func_place reader change.name) change

abbrev pub scope_of : {V : Type 0} → AlgorithmReader → AlgorithmLine V → NameScope
scope_of reader (line.Func definition) = record {
  first_argument = Some definition.first_argument;
  second_argument = definition.second_argument;
  first_reduction = None;
  second_reduction = None;
  own = None;
}
scope_of reader (line.Update change) = change_scope reader change
scope_of reader _ = empty

-- ---- names and divisors, at one place

-- A bare name is that of a variable or a source, and a name that is called that of a source.
abbrev pub is_unknown_at : AlgorithmReader → NameScope → Written → Bool
is_unknown_at reader scope (Bare name) = not (is_some (variable scope name)) && not (is_some (source reader name))
is_unknown_at reader scope (Call name a) = not (is_some (source reader name))
is_unknown_at reader scope (CallTwo name a b) = not (is_some (source reader name))
is_unknown_at reader scope _ = false

abbrev pub has_other_count : Option (Source × ℕ) → ℕ → Bool
has_other_count None count = false
has_other_count (Some callee) count = not (callee.1 == count)

-- A call has as many arguments as its source has dimensions; a bare name of a source has none.
abbrev pub is_wrong_count_at : AlgorithmReader → NameScope → Written → Bool
is_wrong_count_at reader scope (Bare name) = not (is_some (variable scope name)) && is_some (source reader name)
is_wrong_count_at reader scope (Call name a) = has_other_count (source reader name) 1
is_wrong_count_at reader scope (CallTwo name a b) = has_other_count (source reader name) 2
is_wrong_count_at reader scope _ = false

abbrev pub is_divisor_literal : Written → Bool
is_divisor_literal (Literal n) = is_divisor n
is_divisor_literal _ = false

-- A divisor is a literal from 1 to 2147483647, without brackets.
abbrev pub is_bad_divisor_at : Written → Bool
is_bad_divisor_at (Product products.Divide a b) = not (is_divisor_literal b)
is_bad_divisor_at (Product products.Remainder a b) = not (is_divisor_literal b)
is_bad_divisor_at _ = false

-- ---- variables, and calls of the Func that the line updates

-- the variable that an expression is, perhaps in brackets
abbrev pub alone : NameScope → Written → Option Variable
alone scope (Bare name) = variable scope name
alone scope (Group a) = alone scope a
alone scope _ = None

abbrev pub uses_at : NameScope → Variable → Written → Bool
uses_at scope v (Bare name) = is_alone v (variable scope name)
uses_at scope v _ = false

abbrev pub is_own_place : Option ℕ → Source → Bool
is_own_place (Some own) (sources.Func place) = own == place
is_own_place _ _ = false

abbrev pub is_own : NameScope → Option (Source × ℕ) → Bool
is_own scope None = false
is_own scope (Some callee) = is_own_place scope.own callee.0

abbrev pub calls_own_at : AlgorithmReader → NameScope → Written → Bool
calls_own_at reader scope (Call name a) = is_own scope (source reader name)
calls_own_at reader scope (CallTwo name a b) = is_own scope (source reader name)
calls_own_at reader scope _ = false

-- such a call has another first index than the first argument alone
abbrev pub moves_first_at : AlgorithmReader → NameScope → Written → Bool
moves_first_at reader scope (Call name a) = is_own scope (source reader name) && not (is_alone variables.FirstArgument (alone scope a))
moves_first_at reader scope (CallTwo name a b) = is_own scope (source reader name) && not (is_alone variables.FirstArgument (alone scope a))
moves_first_at reader scope _ = false

-- another second index than the second argument alone, or none
abbrev pub moves_second_at : AlgorithmReader → NameScope → Written → Bool
moves_second_at reader scope (Call name a) = is_own scope (source reader name)
moves_second_at reader scope (CallTwo name a b) = is_own scope (source reader name) && not (is_alone variables.SecondArgument (alone scope b))
moves_second_at reader scope _ = false

-- ---- the tree

abbrev pub variable_tree : Option Variable → Expr
variable_tree None = e.Number 0
variable_tree (Some v) = e.Variable v

abbrev pub source_or_first : Option (Source × ℕ) → Source
source_or_first None = sources.Input 0
source_or_first (Some callee) = callee.0

abbrev pub number_or_zero : Written → ℕ
number_or_zero (Literal n) = n
number_or_zero _ = 0

abbrev pub two_operation : TwoFunction → Operation
two_operation twos.Minimum = op.Minimum
two_operation twos.Maximum = op.Maximum

abbrev pub sum_operation : SumOperator → Operation
sum_operation sums.Add = op.Add
sum_operation sums.Subtract = op.Subtract

abbrev pub comparison_operation : CompareOperator → Operation
comparison_operation comparisons.Less = op.Less
comparison_operation comparisons.LessOrEqual = op.LessOrEqual
comparison_operation comparisons.Greater = op.Greater
comparison_operation comparisons.GreaterOrEqual = op.GreaterOrEqual
comparison_operation comparisons.Equal = op.Equal
comparison_operation comparisons.NotEqual = op.NotEqual

-- The tree. Brackets leave no trace, `-a` is `0 - a`, and `clamp(v,l,h)` is `min(max(v,l),h)`. Where a name or a divisor is faulty, 0 or the
-- first input is in its place.
abbrev pub tree : AlgorithmReader → NameScope → Written → Expr
tree reader scope (Literal n) = e.Number n
tree reader scope (Bare name) = variable_tree (variable scope name)
tree reader scope (Group a) = tree reader scope a
tree reader scope (Minus a) = e.Binary op.Subtract (e.Number 0) (tree reader scope a)
tree reader scope (Call name a) = e.Call1 (source_or_first (source reader name)) (tree reader scope a)
tree reader scope (CallTwo name a b) = e.Call2 (source_or_first (source reader name)) (tree reader scope a) (tree reader scope b)
tree reader scope (Two f a b) = e.Binary (two_operation f) (tree reader scope a) (tree reader scope b)
tree reader scope (Three threes.Clamp a b c) = e.Binary op.Minimum (e.Binary op.Maximum (tree reader scope a) (tree reader scope b)) (tree reader scope c)
tree reader scope (Three threes.Select a b c) = e.Select (tree reader scope a) (tree reader scope b) (tree reader scope c)
tree reader scope (Product products.Multiply a b) = e.Binary op.Multiply (tree reader scope a) (tree reader scope b)
tree reader scope (Product products.Divide a b) = e.Divide (tree reader scope a) (number_or_zero b)
tree reader scope (Product products.Remainder a b) = e.Remainder (tree reader scope a) (number_or_zero b)
tree reader scope (Sum operator a b) = e.Binary (sum_operation operator) (tree reader scope a) (tree reader scope b)
tree reader scope (Comparison operator a b) = e.Binary (comparison_operation operator) (tree reader scope a) (tree reader scope b)

-- more nodes than an expression may have, or more brackets and signs around one place
abbrev pub exceeds : AlgorithmReader → NameScope → Written → Bool
exceeds reader scope w = not (fits (nodes (tree reader scope w)) (nesting w))
