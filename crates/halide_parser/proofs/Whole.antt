-- The whole of a text from its lines.
use Rattle.std.proofs.Common.{◌≡◌, ℕ, suc, ◌≤◌, Bool, true, false, cond, ◌==◌, List, [], ◌∷◌, length, Ok, refl, arith}
use Rattle.line_text.specs.Lines.{lines_of, joined, taken_from, FailsAt}
use Rattle.line_text.specs.declared.read_errors.LocatedError.{LocatedError}
use Rattle.line_text.specs.declared.read_errors.LocatedError.TheVariants as places
use Rattle.halide_parser_syntax.specs.declared.faults.ParseFault.{ParseFault}
use Rattle.halide_parser.specs.declared.readers.AlgorithmReader.{AlgorithmReader}
use Rattle.halide_parser.specs.inner.JudgedLines.{taken}
use Rattle.halide_parser.specs.Parsing.{start, finished, parsed}
use Rattle.halide_parser.proofs.Agreement.{parsed_is}
use Rattle.std.specs.declared.alloc.Global.{Global}

-- a text has no more lines than bytes

joins : (byte : ℕ) (lines : List (List ℕ)) → length (joined byte lines) ≤ suc (length lines)
joins byte [] = omega arith
joins byte (line ∷ lines) = omega arith

by : (test : Bool) (byte : ℕ) (lines : List (List ℕ)) → length (cond test ([] ∷ lines) (joined byte lines)) ≤ suc (length lines)
by true byte lines = omega arith
by false byte lines = joins byte lines

pub few_lines : (text : List ℕ) → length (lines_of text) ≤ length text
unfolding lines_of
few_lines [] = omega arith
few_lines (byte ∷ text) = omega (arith, by (byte == 10) byte (lines_of text), few_lines text)

-- a line is faulty
pub fails : (error : LocatedError ParseFault) (alloc : Global) (text : List ℕ) → FailsAt error (taken_from taken 1 (start alloc text) (lines_of text))
    → FailsAt error (parsed alloc text)
fails places.Memory alloc text e = tt
fails (places.Fault number fault) alloc text e = rw (parsed_is alloc text, e) refl

-- no line is
pub ends : (alloc : Global) (text : List ℕ) (reader : AlgorithmReader) → taken_from taken 1 (start alloc text) (lines_of text) ≡ Ok reader
    → parsed alloc text ≡ finished (length (lines_of text)) reader
ends alloc text reader e = rw (parsed_is alloc text, e) refl
