use Rattle.halide_parser_syntax.proofs.Refusals.{follows}
use Rattle.halide_parser_syntax.proofs.laws.lines_follow_the_grammar.Goals as goal

pub returns : goal.returns
returns c = follows
