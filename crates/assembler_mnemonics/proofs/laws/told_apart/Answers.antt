use Rattle.assembler_mnemonics.proofs.Instructions.{told_apart as apart}
use Rattle.assembler_mnemonics.proofs.laws.told_apart.Goals as goal

pub returns : goal.returns
returns c = apart
