use Rattle.hrv_command_line.proofs.Examples.{marked_profile, plain_profile}
use Rattle.hrv_command_line.proofs.laws.profile_is_named.Goals as goal

pub returns-clause-plain : goal.returns-clause-plain
returns-clause-plain c = plain_profile

pub returns-clause-marked : goal.returns-clause-marked
returns-clause-marked c = marked_profile
