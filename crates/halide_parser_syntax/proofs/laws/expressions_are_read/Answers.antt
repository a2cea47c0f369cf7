use Rattle.halide_parser_syntax.proofs.Complete.{is_read}
use Rattle.halide_parser_syntax.proofs.laws.expressions_are_read.Goals as goal

pub returns : goal.returns
returns c = λ w rest right o stops. is_read w rest right o stops
