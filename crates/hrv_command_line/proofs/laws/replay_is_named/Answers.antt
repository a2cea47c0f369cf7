use Rattle.hrv_command_line.proofs.Asking.{named_holds}
use Rattle.hrv_command_line.proofs.Examples.{marked_replay, plain_replay}
use Rattle.hrv_command_line.proofs.laws.replay_is_named.Goals as goal

pub returns-clause-plain : goal.returns-clause-plain
returns-clause-plain c = plain_replay

pub returns-clause-marked : goal.returns-clause-marked
returns-clause-marked c = marked_replay

pub returns-clause-only : goal.returns-clause-only
returns-clause-only c = λ words asked is. (named_holds words asked is).0
