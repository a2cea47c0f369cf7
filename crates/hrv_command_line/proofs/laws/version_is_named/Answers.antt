use Rattle.hrv_command_line.proofs.Examples.{tells_version}
use Rattle.hrv_command_line.proofs.laws.version_is_named.Goals as goal

pub returns-clause-plain : goal.returns-clause-plain
returns-clause-plain c = tells_version
