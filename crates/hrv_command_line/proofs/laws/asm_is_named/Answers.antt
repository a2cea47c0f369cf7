use Rattle.hrv_command_line.proofs.Examples.{marked_asm, plain_asm}
use Rattle.hrv_command_line.proofs.laws.asm_is_named.Goals as goal

pub returns-clause-plain : goal.returns-clause-plain
returns-clause-plain c = plain_asm

pub returns-clause-marked : goal.returns-clause-marked
returns-clause-marked c = marked_asm
