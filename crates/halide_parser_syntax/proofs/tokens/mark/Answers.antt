use Rattle.std.proofs.Common.{arith}
use Rattle.std.proofs.lemmas.Grind.{common_steps}
use Rattle.halide_parser_syntax.proofs.tokens.mark.Goals as goal

pub returns-in-61-rest-clause-value : goal.returns-in-61-rest-clause-value
returns-in-61-rest-clause-value c = grind (arith, common_steps)
