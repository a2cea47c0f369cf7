use Rattle.assembler_mnemonics.proofs.Found.{found, found_by}
use Rattle.assembler_mnemonics.proofs.laws.mnemonics_tell_apart.Goals as goal

pub returns-clause-found : goal.returns-clause-found
returns-clause-found c = found

pub returns-clause-alone : goal.returns-clause-alone
returns-clause-alone c = found_by
