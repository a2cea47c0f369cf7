use Rattle.std.proofs.Common.{arith}
use Rattle.std.proofs.lemmas.Grind.{common_steps}
use Rattle.halide_parser_syntax.proofs.tokens.then_equals.Goals as goal

pub returns-in-61-clause-value : goal.returns-in-61-clause-value
returns-in-61-clause-value c = grind (arith, common_steps)
