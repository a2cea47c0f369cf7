-- A line with what is known of its expressions, in place of the expressions themselves: its least fault, and what it adds.
-- This project's own.
use Rattle.std.specs.Prelude.{◌≡◌, ℕ, Bool, false, not, ◌||◌, if◌then◌else◌, List, Option, Some, None, Result, Ok, Err}
use Rattle.line_text.specs.Lines.{◌>>=◌}
use Rattle.halide_pipeline.specs.declared.expressions.Expr.{Expr}
use Rattle.halide_pipeline.specs.declared.expressions.Expr.TheVariants as e
use Rattle.halide_pipeline.specs.declared.expressions.Variable.{Variable}
use Rattle.halide_pipeline.specs.declared.expressions.Variable.TheVariants as variables
use Rattle.halide_pipeline.specs.declared.definitions.Output.{Output}
use Rattle.halide_pipeline.specs.Pipelines.{Pipeline}
use Rattle.halide_pipeline.specs.WellFormed.{IsWellFormed, is_alone, fits}
use Rattle.halide_parser_syntax.specs.declared.faults.ParseFault.{ParseFault}
use Rattle.halide_parser_syntax.specs.declared.faults.ParseFault.TheVariants as fault
use Rattle.halide_parser_syntax.specs.declared.tokens.Token.{Token}
use Rattle.halide_parser_syntax.specs.declared.lines.Change.{Change}
use Rattle.halide_parser_syntax.specs.declared.lines.AlgorithmLine.{AlgorithmLine}
use Rattle.halide_parser_syntax.specs.declared.lines.AlgorithmLine.TheVariants as line
use Rattle.halide_parser_syntax.specs.inner.Algebra.{writing, made_line}
use Rattle.halide_parser_syntax.specs.inner.LineReading.{read_line}
use Rattle.halide_parser_syntax.specs.Grammar.{Written}
use Rattle.halide_parser_syntax.specs.Tokens.{tokens_of}
use Rattle.halide_parser.specs.declared.judging.Marks.{Marks}
use Rattle.halide_parser.specs.declared.judging.Judged.{Judged}
use Rattle.halide_parser.specs.declared.readers.AlgorithmReader.{AlgorithmReader}
use Rattle.halide_parser.specs.inner.Judging.{judging, no_marks, both_marks}
use Rattle.halide_parser.specs.Meaning.{applied}
use Rattle.halide_parser.specs.Expressions.{func_place, scope_of}
use Rattle.halide_parser.specs.Rules as r

-- ---- marks

abbrev pub marks_of : Option Judged → Marks
marks_of None = no_marks
marks_of (Some judged) = judged.marks

abbrev pub left_marks : Change Judged → Marks
left_marks change = both_marks change.left_x.marks (marks_of change.left_y)

abbrev pub change_marks : Change Judged → Marks
change_marks change = both_marks (left_marks change) change.right.marks

-- the marks of all expressions of a line
abbrev pub line_marks : AlgorithmLine Judged → Marks
line_marks (line.Func definition) = definition.right.marks
line_marks (line.Update change) = change_marks change
line_marks _ = no_marks

abbrev pub is_unknown : AlgorithmReader → AlgorithmLine Judged → Bool
is_unknown reader l = r.is_other_name reader l || (line_marks l).is_unknown

abbrev pub is_wrong_count : AlgorithmReader → AlgorithmLine Judged → Bool
is_wrong_count reader l = r.is_other_left reader l || (line_marks l).is_wrong_count

abbrev pub is_in_place : Option Judged → Variable → Bool
is_in_place None variable = false
is_in_place (Some judged) variable = is_alone variable judged.alone

abbrev pub is_moved : Change Judged → Bool
is_moved change =
    (left_marks change).calls_own
    || (if is_alone variables.FirstArgument change.left_x.alone then (change_marks change).moves_first else (change_marks change).uses_first)
    || (if is_in_place change.left_y variables.SecondArgument then (change_marks change).moves_second else (change_marks change).uses_second)

abbrev pub is_misshapen : AlgorithmReader → AlgorithmLine Judged → Bool
is_misshapen reader (line.Update change) = not (r.same_place reader.last_func (func_place reader change.name)) || is_moved change
is_misshapen reader _ = false

abbrev pub exceeds : Judged → Bool
exceeds judged = not (fits judged.nodes judged.nesting)

-- ---- the least fault

unfoldable pub fault_of : AlgorithmReader → List Token → AlgorithmLine Judged → Option ParseFault
fault_of reader tokens l =
    if r.is_behind_output reader.output l then Some fault.Syntax
    else if is_unknown reader l then Some fault.UnknownName
    else if r.is_taken reader l then Some fault.NameTaken
    else if is_wrong_count reader l then Some fault.WrongCount
    else if (line_marks l).is_bad_divisor then Some fault.Divisor
    else if r.has_large tokens then Some fault.NumberTooLarge
    else if is_misshapen reader l then Some fault.UpdateShape
    else if r.is_over_limit exceeds reader tokens l then Some fault.Limit
    else None

-- ---- what is added

-- the tree that is known, which an expression without faults has
abbrev pub tree_or_zero : Option Expr → Expr
tree_or_zero None = e.Number 0
tree_or_zero (Some tree) = tree

abbrev pub tree_of : Judged → Expr
tree_of judged = tree_or_zero judged.tree

-- ---- a line from its tokens

-- a line with what is known of its expressions
abbrev pub judged_line : AlgorithmReader → AlgorithmLine Written → AlgorithmLine Judged
judged_line reader w = made_line (judging reader (scope_of reader w)) w

-- the line that tokens spell, judged; a syntax fault where they spell none
unfoldable pub judged : AlgorithmReader → List Token → Result (AlgorithmLine Judged) ParseFault
judged reader tokens = read_line writing tokens >>= λ w. Ok (judged_line reader w)

abbrev pub settled_as : AlgorithmReader → AlgorithmLine Judged → Option ParseFault → Result AlgorithmReader ParseFault
settled_as reader l None = Ok (applied tree_of reader l)
settled_as reader l (Some fault) = Err fault

abbrev pub settled : AlgorithmReader → List Token → AlgorithmLine Judged → Result AlgorithmReader ParseFault
settled reader tokens l = settled_as reader l (fault_of reader tokens l)

unfoldable pub taken : AlgorithmReader → List ℕ → Result AlgorithmReader ParseFault
taken reader line = tokens_of line >>= λ tokens. judged reader tokens >>= λ l. settled reader tokens l

-- ---- a text

abbrev pub pipeline_of : AlgorithmReader → Output → Pipeline
pipeline_of reader output = record { names = reader.names; inputs = reader.inputs; funcs = reader.funcs; output = output }

-- What the lines named is well-formed, with the output that they named.
abbrev pub IsFinishable : AlgorithmReader → Type 0
IsFinishable reader = (output : Output) → reader.output ≡ Some output → IsWellFormed (pipeline_of reader output)
