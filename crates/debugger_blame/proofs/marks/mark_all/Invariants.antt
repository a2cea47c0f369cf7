use Rattle.std.proofs.Common.{◌-◌, length}
use Rattle.debugger_blame.proofs.MarksMade.{MarksUpTo}
use Rattle.debugger_blame.proofs.marks.mark_all.Given as goal

abbrev pub invariant-runs : goal.invariant-runs
invariant-runs l = MarksUpTo l.fn.machine l.machine l.log.turns l.place l.range.marking l.range.first l.marks

abbrev pub decreases-runs : goal.decreases-runs
decreases-runs l = length l.log.turns - l.place
