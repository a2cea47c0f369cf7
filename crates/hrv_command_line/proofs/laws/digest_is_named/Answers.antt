use Rattle.hrv_command_line.proofs.Examples.{marked_digest, no_digest, plain_digest}
use Rattle.hrv_command_line.proofs.laws.digest_is_named.Goals as goal

pub returns-clause-plain : goal.returns-clause-plain
returns-clause-plain c = plain_digest

pub returns-clause-marked : goal.returns-clause-marked
returns-clause-marked c = marked_digest

pub returns-clause-none : goal.returns-clause-none
returns-clause-none c = no_digest
