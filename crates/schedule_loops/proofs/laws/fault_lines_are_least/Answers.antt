use Rattle.schedule_loops.proofs.FaultLines.{nowhere_lines_are_least, rule_lines_are_least, verdicts_name_least_lines}
use Rattle.schedule_loops.proofs.laws.fault_lines_are_least.Goals as goal

pub returns-clause-rules : goal.returns-clause-rules
returns-clause-rules c = rule_lines_are_least

pub returns-clause-nowhere : goal.returns-clause-nowhere
returns-clause-nowhere c = nowhere_lines_are_least

pub returns-clause-verdicts : goal.returns-clause-verdicts
returns-clause-verdicts c = verdicts_name_least_lines
