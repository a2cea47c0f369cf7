use Rattle.hrv_command_line.proofs.Examples.{marked_compile, plain_compile}
use Rattle.hrv_command_line.proofs.laws.compile_is_named.Goals as goal

pub returns-clause-plain : goal.returns-clause-plain
returns-clause-plain c = plain_compile

pub returns-clause-marked : goal.returns-clause-marked
returns-clause-marked c = marked_compile
