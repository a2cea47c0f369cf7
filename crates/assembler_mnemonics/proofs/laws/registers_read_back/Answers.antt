use Rattle.assembler_mnemonics.proofs.Written.{register_read_back}
use Rattle.assembler_mnemonics.proofs.laws.registers_read_back.Goals as goal

pub returns : goal.returns
returns c = register_read_back
