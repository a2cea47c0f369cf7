use Rattle.hrv_command_line.proofs.Examples.{address_blame, pixel_blame, plain_blame, turns_blame}
use Rattle.hrv_command_line.proofs.laws.blame_is_named.Goals as goal

pub returns-clause-plain : goal.returns-clause-plain
returns-clause-plain c = plain_blame

pub returns-clause-turns : goal.returns-clause-turns
returns-clause-turns c = turns_blame

pub returns-clause-pixel : goal.returns-clause-pixel
returns-clause-pixel c = pixel_blame

pub returns-clause-address : goal.returns-clause-address
returns-clause-address c = address_blame
