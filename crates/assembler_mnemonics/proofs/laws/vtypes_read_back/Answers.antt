use Rattle.assembler_mnemonics.proofs.Written.{vtype_read_back}
use Rattle.assembler_mnemonics.proofs.laws.vtypes_read_back.Goals as goal

pub returns : goal.returns
returns c = vtype_read_back
