use Rattle.halide_parser_syntax.proofs.Sound.{is_written}
use Rattle.halide_parser_syntax.proofs.laws.expressions_are_written.Goals as goal

pub returns : goal.returns
returns c = λ tokens w rest e. is_written tokens w rest e
