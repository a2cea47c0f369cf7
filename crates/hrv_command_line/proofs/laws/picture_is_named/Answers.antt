use Rattle.hrv_command_line.proofs.Examples.{marked_picture, plain_picture}
use Rattle.hrv_command_line.proofs.laws.picture_is_named.Goals as goal

pub returns-clause-plain : goal.returns-clause-plain
returns-clause-plain c = plain_picture

pub returns-clause-marked : goal.returns-clause-marked
returns-clause-marked c = marked_picture
