use Rattle.std.proofs.Common.{arith}
use Rattle.std.proofs.lemmas.Grind.{common_steps}
use Rattle.halide_parser_syntax.proofs.line_parts.bounds_from.Goals as goal

pub returns-in_ok-copied-in-Number : goal.returns-in_ok-copied-in-Number
returns-in_ok-copied-in-Number c = grind (arith, common_steps)
