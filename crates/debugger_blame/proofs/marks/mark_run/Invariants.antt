use Rattle.std.proofs.Common.{◌-◌}
use Rattle.debugger_blame.proofs.MarksMade.{MarksSoFar}
use Rattle.debugger_blame.proofs.marks.mark_run.Given as goal

abbrev pub invariant-turns : goal.invariant-turns
invariant-turns l = MarksSoFar l.fn.machine l.machine l.hart l.place l.made l.count l.range.marking l.range.first l.fn.marks l.marks

abbrev pub decreases-turns : goal.decreases-turns
decreases-turns l = l.count - l.made
