use Rattle.hrv_command_line.proofs.Examples.{marked_log, marked_made_log, plain_log, plain_made_log}
use Rattle.hrv_command_line.proofs.laws.log_is_named.Goals as goal

pub returns-clause-printed : goal.returns-clause-printed
returns-clause-printed c = plain_log

pub returns-clause-printed_marked : goal.returns-clause-printed_marked
returns-clause-printed_marked c = marked_log

pub returns-clause-made : goal.returns-clause-made
returns-clause-made c = plain_made_log

pub returns-clause-made_marked : goal.returns-clause-made_marked
returns-clause-made_marked c = marked_made_log
