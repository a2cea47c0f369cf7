use Rattle.hrv_command_line.proofs.Examples.{marked_map, plain_map}
use Rattle.hrv_command_line.proofs.laws.map_is_named.Goals as goal

pub returns-clause-plain : goal.returns-clause-plain
returns-clause-plain c = plain_map

pub returns-clause-marked : goal.returns-clause-marked
returns-clause-marked c = marked_map
