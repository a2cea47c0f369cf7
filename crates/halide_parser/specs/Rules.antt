-- The rule that each fault of a line of the grammar breaks, and the least fault.
-- This project's own.
use Rattle.std.specs.Prelude.{ℕ, ◌*◌, Bool, true, false, not, ◌&&◌, ◌||◌, ◌==◌, nat_le, nat_lt, if◌then◌else◌, List, length, Option, Some, None, is_some}
use Rattle.std.specs.List.{list_any}
use Rattle.std.specs.Str.{bytes_eq}
use Rattle.halide_pipeline.specs.declared.expressions.Variable.TheVariants as variables
use Rattle.halide_pipeline.specs.declared.definitions.Func.{Func}
use Rattle.halide_pipeline.specs.declared.definitions.Output.{Output}
use Rattle.halide_pipeline.specs.WellFormed as definitions
use Rattle.halide_pipeline.specs.Pipelines.{lookup, is_named}
use Rattle.halide_pipeline.specs.WellFormed.{is_alone, is_argument_name, most_extent, most_points}
use Rattle.halide_parser_syntax.specs.declared.faults.ParseFault.{ParseFault}
use Rattle.halide_parser_syntax.specs.declared.faults.ParseFault.TheVariants as fault
use Rattle.halide_parser_syntax.specs.declared.tokens.Token.{Token}
use Rattle.halide_parser_syntax.specs.declared.tokens.Token.TheVariants as t
use Rattle.halide_parser_syntax.specs.declared.lines.ReductionBounds.{ReductionBounds}
use Rattle.halide_parser_syntax.specs.declared.lines.Change.{Change}
use Rattle.halide_parser_syntax.specs.declared.lines.AlgorithmLine.{AlgorithmLine}
use Rattle.halide_parser_syntax.specs.declared.lines.AlgorithmLine.TheVariants as line
use Rattle.halide_parser_syntax.specs.Grammar.{Written, has_part}
use Rattle.halide_parser.specs.declared.readers.AlgorithmReader.{AlgorithmReader}
use Rattle.halide_parser.specs.declared.scopes.NameScope.{NameScope}
use Rattle.halide_parser.specs.Expressions.{is_unknown_at, is_wrong_count_at, is_bad_divisor_at, uses_at, alone, calls_own_at, moves_first_at, moves_second_at}
use Rattle.halide_parser.specs.Expressions.{exceeds, scope_of, func, func_place}

-- ---- after the output line only blank lines stand

abbrev pub is_blank : {V : Type 0} → AlgorithmLine V → Bool
is_blank line.Blank = true
is_blank _ = false

abbrev pub is_behind_output : {V : Type 0} → Option Output → AlgorithmLine V → Bool
is_behind_output output l = is_some output && not (is_blank l)

-- ---- the expressions of a line

abbrev pub index_has : (Written → Bool) → Option Written → Bool
index_has test None = false
index_has test (Some index) = has_part test index

-- A part of the indexes on the left of an update passes a test.
abbrev pub left_has : (Written → Bool) → Change Written → Bool
left_has test change = has_part test change.left_x || index_has test change.left_y

abbrev pub change_has : (Written → Bool) → Change Written → Bool
change_has test change = left_has test change || has_part test change.right

-- A part of an expression of the line passes a test.
abbrev pub line_has : (Written → Bool) → AlgorithmLine Written → Bool
line_has test (line.Func definition) = has_part test definition.right
line_has test (line.Update change) = change_has test change
line_has test _ = false

-- ---- a name stands for nothing that can stand there

abbrev pub is_func : AlgorithmReader → List ℕ → Bool
is_func reader name = is_some (func_place reader name)

-- an update or output line whose name isn't a Func
abbrev pub is_other_name : {V : Type 0} → AlgorithmReader → AlgorithmLine V → Bool
is_other_name reader (line.Update change) = not (is_func reader change.name)
is_other_name reader (line.Output extents) = not (is_func reader extents.name)
is_other_name reader _ = false

abbrev pub is_unknown : AlgorithmReader → AlgorithmLine Written → Bool
is_unknown reader l = is_other_name reader l || line_has (is_unknown_at reader (scope_of reader l)) l

-- ---- a name is taken

abbrev pub is_argument_of : Option Func → List ℕ → Bool
is_argument_of None name = false
is_argument_of (Some f) name = is_argument_name f.first_argument f.second_argument name

abbrev pub is_argument : AlgorithmReader → List ℕ → List ℕ → Bool
is_argument reader owner name = is_argument_of (func reader owner) name

abbrev pub is_second_taken : AlgorithmReader → List ℕ → List ℕ → Option ReductionBounds → Bool
is_second_taken reader owner first None = false
is_second_taken reader owner first (Some bounds) = bytes_eq bounds.name first || is_argument reader owner bounds.name

abbrev pub is_reduction_taken : {V : Type 0} → AlgorithmReader → Change V → Bool
is_reduction_taken reader change = is_argument reader change.name change.first.name || is_second_taken reader change.name change.first.name change.second

-- an input or Func twice; an argument or reduction variable twice in a definition
abbrev pub is_taken : {V : Type 0} → AlgorithmReader → AlgorithmLine V → Bool
is_taken reader (line.Input extents is_bytes) = is_some (lookup extents.name reader.names)
is_taken reader (line.Func definition) = is_some (lookup definition.name reader.names) || is_named definition.second_argument definition.first_argument
is_taken reader (line.Update change) = is_reduction_taken reader change
is_taken reader _ = false

-- ---- the number of arguments or dimensions is another

abbrev pub is_other_count_of : Option Func → ℕ → Bool
is_other_count_of None count = false
is_other_count_of (Some f) count = not (definitions.dimensions f == count)

abbrev pub is_other_count : AlgorithmReader → List ℕ → ℕ → Bool
is_other_count reader name count = is_other_count_of (func reader name) count

abbrev pub count_with : {A : Type 0} → Option A → ℕ
count_with second = if is_some second then 2 else 1

abbrev pub is_other_left : {V : Type 0} → AlgorithmReader → AlgorithmLine V → Bool
is_other_left reader (line.Update change) = is_other_count reader change.name (count_with change.left_y)
is_other_left reader (line.Output extents) = is_other_count reader extents.name (count_with extents.height)
is_other_left reader _ = false

abbrev pub is_wrong_count : AlgorithmReader → AlgorithmLine Written → Bool
is_wrong_count reader l = is_other_left reader l || line_has (is_wrong_count_at reader (scope_of reader l)) l

-- ---- a number is above 2147483647; a name is above 32 bytes

abbrev pub is_large : Token → Bool
is_large (t.Number n) = nat_lt 0x7fffffff n
is_large _ = false

abbrev pub is_long : Token → Bool
is_long (t.Name name) = nat_lt 32 (length name)
is_long _ = false

unfoldable pub has_large : List Token → Bool
has_large tokens = list_any is_large tokens

unfoldable pub has_long : List Token → Bool
has_long tokens = list_any is_long tokens

-- ---- the shape of an update

abbrev pub is_second_alone : NameScope → Option Written → Bool
is_second_alone scope None = false
is_second_alone scope (Some index) = is_alone variables.SecondArgument (alone scope index)

-- An argument that is alone in its place on the left is so in each call of the Func; any other isn't used at all. The Func
-- isn't called on the left.
abbrev pub is_moved : AlgorithmReader → NameScope → Change Written → Bool
is_moved reader scope change =
    left_has (calls_own_at reader scope) change
    || (if is_alone variables.FirstArgument (alone scope change.left_x) then change_has (moves_first_at reader scope) change else change_has
    (uses_at scope variables.FirstArgument) change)
    || (if is_second_alone scope change.left_y then change_has (moves_second_at reader scope) change else change_has (uses_at scope variables.SecondArgument)
    change)

abbrev pub same_place : Option ℕ → Option ℕ → Bool
same_place None None = true
same_place (Some a) (Some b) = a == b
same_place _ _ = false

-- an update is below its Func's own lines
abbrev pub is_misshapen : AlgorithmReader → AlgorithmLine Written → Bool
is_misshapen reader (line.Update change) = not (same_place reader.last_func (func_place reader change.name))
    || is_moved reader (scope_of reader (line.Update change)) change
is_misshapen reader _ = false

-- ---- limits

abbrev pub is_bad_extent : ℕ → Bool
is_bad_extent extent = nat_lt extent 1 || nat_lt most_extent extent

abbrev pub is_bad_box : ℕ → ℕ → Bool
is_bad_box width height = is_bad_extent width || is_bad_extent height || nat_lt most_points (width * height)

abbrev pub height_of : Option ℕ → ℕ
height_of None = 1
height_of (Some height) = height

abbrev pub second_extent : Option ReductionBounds → ℕ
second_extent None = 1
second_extent (Some bounds) = bounds.extent

abbrev pub is_second_far : Option ReductionBounds → Bool
is_second_far None = false
is_second_far (Some bounds) = nat_lt 0x1000000 bounds.minimum

abbrev pub second_exceeds : {V : Type 0} → (V → Bool) → Option V → Bool
second_exceeds exceeds None = false
second_exceeds exceeds (Some index) = exceeds index

abbrev pub is_full_of : Option Func → Bool
is_full_of None = false
is_full_of (Some f) = nat_le 4 (length f.updates)

abbrev pub is_full : AlgorithmReader → List ℕ → Bool
is_full reader name = is_full_of (func reader name)

-- 4 updates a Func, expressions within their limits, minimums from -2^24 to 2^24, and the reduction box
abbrev pub is_change_over_limit : {V : Type 0} → (V → Bool) → AlgorithmReader → Change V → Bool
is_change_over_limit exceeds reader change =
    is_full reader change.name
    || (exceeds change.left_x || second_exceeds exceeds change.left_y || exceeds change.right)
    || (nat_lt 0x1000000 change.first.minimum || is_second_far change.second)
    || is_bad_box change.first.extent (second_extent change.second)

-- 4 inputs, 12 Funcs, and boxes
abbrev pub is_line_over_limit : {V : Type 0} → (V → Bool) → AlgorithmReader → AlgorithmLine V → Bool
is_line_over_limit exceeds reader line.Blank = false
is_line_over_limit exceeds reader (line.Input extents is_bytes) = nat_le 4 (length reader.inputs) || is_bad_box extents.width (height_of extents.height)
is_line_over_limit exceeds reader (line.Func definition) = nat_le 12 (length reader.funcs) || exceeds definition.right
is_line_over_limit exceeds reader (line.Update change) = is_change_over_limit exceeds reader change
is_line_over_limit exceeds reader (line.Output extents) = is_bad_box extents.width (height_of extents.height)

-- A text above its limit is a fault of its first line. `exceeds` says whether an expression is above its own.
abbrev pub is_over_limit : {V : Type 0} → (V → Bool) → AlgorithmReader → List Token → AlgorithmLine V → Bool
is_over_limit exceeds reader tokens l = reader.is_oversized || has_long tokens || is_line_over_limit exceeds reader l

-- ---- the least fault of a line of the grammar, which these tokens spell
unfoldable pub fault_of : AlgorithmReader → List Token → AlgorithmLine Written → Option ParseFault
fault_of reader tokens l =
    if is_behind_output reader.output l then Some fault.Syntax
    else if is_unknown reader l then Some fault.UnknownName
    else if is_taken reader l then Some fault.NameTaken
    else if is_wrong_count reader l then Some fault.WrongCount
    else if line_has is_bad_divisor_at l then Some fault.Divisor
    else if has_large tokens then Some fault.NumberTooLarge
    else if is_misshapen reader l then Some fault.UpdateShape
    else if is_over_limit (exceeds reader (scope_of reader l)) reader tokens l then Some fault.Limit
    else None
