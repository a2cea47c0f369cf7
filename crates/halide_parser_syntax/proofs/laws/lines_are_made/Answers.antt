use Rattle.halide_parser_syntax.proofs.MakingLines.{read_line}
use Rattle.halide_parser_syntax.proofs.laws.lines_are_made.Goals as goal

pub returns : goal.returns
returns g c = λ alg tokens. read_line alg tokens
