use Rattle.hrv_command_line.proofs.Examples.{marked_verify, plain_verify}
use Rattle.hrv_command_line.proofs.laws.verify_is_named.Goals as goal

pub returns-clause-plain : goal.returns-clause-plain
returns-clause-plain c = plain_verify

pub returns-clause-marked : goal.returns-clause-marked
returns-clause-marked c = marked_verify
