use Rattle.hrv_command_line.proofs.Examples.{marked_renew, plain_renew}
use Rattle.hrv_command_line.proofs.laws.renew_is_named.Goals as goal

pub returns-clause-plain : goal.returns-clause-plain
returns-clause-plain c = plain_renew

pub returns-clause-marked : goal.returns-clause-marked
returns-clause-marked c = marked_renew
