use Rattle.hrv_command_line.proofs.Examples.{drawn_every, drawn_plain, marked_run, options_run, plain_run, recorded_run, resumed_recorded, resumed_run}
use Rattle.hrv_command_line.proofs.laws.run_is_named.Goals as goal

pub returns-clause-plain : goal.returns-clause-plain
returns-clause-plain c = plain_run

pub returns-clause-marked : goal.returns-clause-marked
returns-clause-marked c = marked_run

pub returns-clause-options : goal.returns-clause-options
returns-clause-options c = options_run

pub returns-clause-resumed : goal.returns-clause-resumed
returns-clause-resumed c = resumed_run

pub returns-clause-drawn : goal.returns-clause-drawn
returns-clause-drawn c = drawn_plain

pub returns-clause-drawn_by : goal.returns-clause-drawn_by
returns-clause-drawn_by c = drawn_every

pub returns-clause-recorded : goal.returns-clause-recorded
returns-clause-recorded c = recorded_run

pub returns-clause-resumed_recorded : goal.returns-clause-resumed_recorded
returns-clause-resumed_recorded c = resumed_recorded
