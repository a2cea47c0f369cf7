use Rattle.hrv_command_line.proofs.Examples.{marked_debug, plain_debug}
use Rattle.hrv_command_line.proofs.laws.debug_is_named.Goals as goal

pub returns-clause-plain : goal.returns-clause-plain
returns-clause-plain c = plain_debug

pub returns-clause-marked : goal.returns-clause-marked
returns-clause-marked c = marked_debug
