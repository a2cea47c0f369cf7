use Rattle.assembler_mnemonics.proofs.Placed.{length_placed, filled_fits, filled_keeps}
use Rattle.assembler_mnemonics.specs.Slots.{blank}
use Rattle.assembler_mnemonics.proofs.laws.operands_fill.Goals as goal

pub returns-clause-count : goal.returns-clause-count
returns-clause-count c = λ form pairs h. length_placed (blank form) pairs

pub returns-clause-fits : goal.returns-clause-fits
returns-clause-fits c = filled_fits

pub returns-clause-kept : goal.returns-clause-kept
returns-clause-kept c = filled_keeps
