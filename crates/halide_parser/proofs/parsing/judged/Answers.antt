use Rattle.std.proofs.lemmas.Result.{err_from_is_err_and}
use Rattle.halide_parser.proofs.Once.{once}
use Rattle.halide_parser.proofs.parsing.judged.Goals as goal

pub returns-in_err-read_line : goal.returns-in_err-read_line
returns-in_err-read_line c =
    let from = err_from_is_err_and c.from_residual-in_err-read_line.result c.from_residual-in_err-read_line.ensures.1 in
    rw (from.1, from.2) (rw (← once c.args.reader.now c.args.tokens.now, ← c.in_ok-scope.ensures) c.in_err-read_line.ensures)

pub returns : goal.returns
returns c = rw (← once c.args.reader.now c.args.tokens.now, ← c.in_ok-scope.ensures) c.in_ok-read_line.ensures
