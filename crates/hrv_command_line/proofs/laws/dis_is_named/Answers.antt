use Rattle.hrv_command_line.proofs.Examples.{addresses_before, addresses_behind, marked_dis, plain_dis}
use Rattle.hrv_command_line.proofs.laws.dis_is_named.Goals as goal

pub returns-clause-plain : goal.returns-clause-plain
returns-clause-plain c = plain_dis

pub returns-clause-marked : goal.returns-clause-marked
returns-clause-marked c = marked_dis

pub returns-clause-addresses : goal.returns-clause-addresses
returns-clause-addresses c = addresses_behind

pub returns-clause-before : goal.returns-clause-before
returns-clause-before c = addresses_before
