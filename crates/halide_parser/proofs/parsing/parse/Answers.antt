use Rattle.std.proofs.Common.{◌≡◌, ℕ, Result, Ok, arith}
use Rattle.std.proofs.lemmas.Result.{err_from_is_err_and}
use Rattle.line_text.specs.Lines.{FailsAt}
use Rattle.halide_parser.specs.Parsing.{parsed}
use Rattle.halide_pipeline.specs.Pipelines.{Pipeline}
use Rattle.halide_parser_syntax.specs.declared.faults.ParseFault.{ParseFault}
use Rattle.halide_parser.proofs.Agreement.{by_reading}
use Rattle.halide_parser.proofs.KeptTexts.{parsed_keeps, lines_finish}
use Rattle.halide_parser.proofs.Whole.{few_lines, fails, ends}
use Rattle.halide_parser.proofs.parsing.parse.Goals as goal

pub returns-in_err-count : goal.returns-in_err-count
returns-in_err-count c =
    let from = err_from_is_err_and c.from_residual.result c.from_residual.ensures.1 in
    let given = fails c.in_err-count.field-0.0 c.args.alloc c.args.text.now (rw (c.start-reader.ensures, c.as_bytes-bytes.ensures.value) at
    c.in_err-count.ensures.read) in
    rw (from.1, from.2) (record {
      given = given;
      by_grammar = λ read is. by_reading (FailsAt c.in_err-count.field-0.0) c.args.alloc c.args.text.now given read
          is;
      well_formed = tt;
    })

pub finished-requires : goal.finished-requires
finished-requires c = record {
  few = omega (arith, few_lines c.as_bytes-bytes.result.now, c.in_ok-count.ensures.count, c.as_bytes-bytes.ensures.len);
  kept = lines_finish c.args.alloc c.args.text.now c.read_lines.new.reader (rw (c.start-reader.ensures, c.as_bytes-bytes.ensures.value) at
      c.in_ok-count.ensures.read);
}

pub returns-in_err-finished : goal.returns-in_err-finished
returns-in_err-finished c =
    let from = err_from_is_err_and c.from_residual-in_err-finished.result c.from_residual-in_err-finished.ensures.1 in
    let is = ends c.args.alloc c.args.text.now c.read_lines.new.reader (rw (c.start-reader.ensures, c.as_bytes-bytes.ensures.value) at
    c.in_ok-count.ensures.read) in
    let given : FailsAt c.in_err-finished.field-0.0 (parsed c.args.alloc c.args.text.now) =
    rw (is, ← c.as_bytes-bytes.ensures.value, ← c.in_ok-count.ensures.count) c.in_err-finished.ensures in
    rw (from.1, from.2) (record {
      given = given;
      by_grammar = λ read is. by_reading (FailsAt c.in_err-finished.field-0.0) c.args.alloc c.args.text.now given
          read is;
      well_formed = tt;
    })

pub returns : goal.returns
returns c =
    let is = ends c.args.alloc c.args.text.now c.read_lines.new.reader (rw (c.start-reader.ensures, c.as_bytes-bytes.ensures.value) at
    c.in_ok-count.ensures.read) in
    let given : parsed c.args.alloc c.args.text.now ≡ Ok c.in_ok-finished.field-0 = rw (is, ← c.as_bytes-bytes.ensures.value, ← c.in_ok-count.ensures.count)
    c.in_ok-finished.ensures in
    let kept = parsed_keeps c.args.alloc c.args.text.now c.in_ok-finished.field-0 given in
    record {
      given = given;
      by_grammar = λ read is. by_reading (λ (all : Result Pipeline (ℕ × ParseFault)). all ≡ Ok c.in_ok-finished.field-0) c.args.alloc
          c.args.text.now given read is;
      well_formed = kept;
    }
