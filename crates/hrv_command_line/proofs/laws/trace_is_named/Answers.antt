use Rattle.hrv_command_line.proofs.Examples.{address_trace, hart_trace, plain_trace, turns_trace}
use Rattle.hrv_command_line.proofs.laws.trace_is_named.Goals as goal

pub returns-clause-plain : goal.returns-clause-plain
returns-clause-plain c = plain_trace

pub returns-clause-turns : goal.returns-clause-turns
returns-clause-turns c = turns_trace

pub returns-clause-hart : goal.returns-clause-hart
returns-clause-hart c = hart_trace

pub returns-clause-address : goal.returns-clause-address
returns-clause-address c = address_trace
