use Rattle.std.proofs.Common.{arith}
use Rattle.std.proofs.lemmas.Grind.{common_steps}
use Rattle.disassembler.specs.Listing.{vtype_text, names_text}
use Rattle.disassembler.proofs.operands.push_vtype.Goals as goal

pub returns : goal.returns
unfolding vtype_text names_text
returns c = grind (arith, common_steps)

pub returns-then-not-has_names : goal.returns-then-not-has_names
unfolding vtype_text
returns-then-not-has_names c = grind (arith, common_steps)
