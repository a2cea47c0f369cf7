use Rattle.hrv_command_line.proofs.Examples.{marked_races, plain_races}
use Rattle.hrv_command_line.proofs.laws.races_are_named.Goals as goal

pub returns-clause-plain : goal.returns-clause-plain
returns-clause-plain c = plain_races

pub returns-clause-marked : goal.returns-clause-marked
returns-clause-marked c = marked_races
