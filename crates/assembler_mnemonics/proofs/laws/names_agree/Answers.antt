use Rattle.assembler_mnemonics.proofs.Instructions.{names_agree as agreed}
use Rattle.assembler_mnemonics.proofs.laws.names_agree.Goals as goal

pub returns : goal.returns
returns c = agreed
