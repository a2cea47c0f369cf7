-- The pipeline that a text names, or its first faulty line and that line's least fault.
-- This project's own.
use Rattle.std.specs.Prelude.{ℕ, ◌+◌, Bool, nat_lt, List, [], length, Option, Some, None, Result, Ok, Err}
use Rattle.std.specs.declared.alloc.Global.{Global}
use Rattle.line_text.specs.Lines.{◌>>=◌, taken_from, lines_of}
use Rattle.halide_pipeline.specs.Pipelines.{Pipeline}
use Rattle.halide_pipeline.specs.declared.definitions.Output.{Output}
use Rattle.halide_parser_syntax.specs.declared.faults.ParseFault.{ParseFault}
use Rattle.halide_parser_syntax.specs.declared.faults.ParseFault.TheVariants.{NoOutput, Syntax}
use Rattle.halide_parser_syntax.specs.declared.tokens.Token.{Token}
use Rattle.halide_parser_syntax.specs.declared.lines.AlgorithmLine.{AlgorithmLine}
use Rattle.halide_parser_syntax.specs.Grammar.{Written}
use Rattle.halide_parser_syntax.specs.Tokens.{tokens_of}
use Rattle.halide_parser_syntax.specs.inner.LineReading.{line_of}
use Rattle.halide_parser.specs.declared.readers.AlgorithmReader.{AlgorithmReader}
use Rattle.halide_parser.specs.Expressions.{tree, scope_of}
use Rattle.halide_parser.specs.Meaning.{applied}
use Rattle.halide_parser.specs.Rules.{fault_of}

-- ---- a line

abbrev pub settled_as : AlgorithmReader → AlgorithmLine Written → Option ParseFault → Result AlgorithmReader ParseFault
settled_as reader l None = Ok (applied (tree reader (scope_of reader l)) reader l)
settled_as reader l (Some fault) = Err fault

-- the lines so far and this one, or its least fault
abbrev pub settled : AlgorithmReader → List Token → AlgorithmLine Written → Result AlgorithmReader ParseFault
settled reader tokens l = settled_as reader l (fault_of reader tokens l)

-- Tokens that spell no line of the grammar are a syntax fault.
abbrev pub settled_if : AlgorithmReader → List Token → Option (AlgorithmLine Written) → Result AlgorithmReader ParseFault
settled_if reader tokens None = Err Syntax
settled_if reader tokens (Some l) = settled reader tokens l

-- The lines so far and one more, where `read` gives the line that tokens spell (`FollowsGrammar` of `halide_parser_syntax`).
unfoldable pub taken_by : (List Token → Option (AlgorithmLine Written)) → AlgorithmReader → List ℕ → Result AlgorithmReader ParseFault
taken_by read reader line = tokens_of line >>= λ tokens. settled_if reader tokens (read tokens)

-- ---- a text

-- a text has at most this many bytes
abbrev pub most_text : ℕ
most_text = 65536

abbrev pub is_oversized : List ℕ → Bool
is_oversized text = nat_lt most_text (length text)

abbrev pub start : Global → List ℕ → AlgorithmReader
start alloc text = record { alloc = alloc; is_oversized = is_oversized text; names = []; inputs = []; funcs = []; output = None; last_func = None }

-- A text without an output line is faulty in the line after its last one.
abbrev pub finished_as : ℕ → AlgorithmReader → Option Output → Result Pipeline (ℕ × ParseFault)
finished_as count reader None = Err (count + 1, NoOutput)
finished_as count reader (Some output) = Ok (record { names = reader.names; inputs = reader.inputs; funcs = reader.funcs; output = output })

abbrev pub finished : ℕ → AlgorithmReader → Result Pipeline (ℕ × ParseFault)
finished count reader = finished_as count reader reader.output

-- what a text names, or its first faulty line and that line's least fault, where `read` gives the line that tokens spell
unfoldable pub parsed_by : (List Token → Option (AlgorithmLine Written)) → Global → List ℕ → Result Pipeline (ℕ × ParseFault)
parsed_by read alloc text = taken_from (taken_by read) 1 (start alloc text) (lines_of text) >>= λ reader. finished (length (lines_of text)) reader

-- The same. The call `lines_follow_the_grammar` of `halide_parser_syntax` proves that `line_of` gives the line that tokens spell.
unfoldable pub parsed : Global → List ℕ → Result Pipeline (ℕ × ParseFault)
parsed alloc text = parsed_by line_of alloc text
