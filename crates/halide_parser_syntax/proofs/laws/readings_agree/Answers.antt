use Rattle.halide_parser_syntax.proofs.Refusals.{agree}
use Rattle.halide_parser_syntax.proofs.laws.readings_agree.Goals as goal

pub returns : goal.returns
returns c = λ read other one two tokens. agree read other one two tokens
