use Rattle.std.proofs.Common.{◌-◌}
use Rattle.debugger_blame.proofs.Passing.{SoFar}
use Rattle.debugger_blame.proofs.passes.pass_run.Given as goal

abbrev pub invariant-turns : goal.invariant-turns
invariant-turns l = SoFar l.fn.machine l.machine l.hart l.place l.made l.count l.address l.fn.last l.last

abbrev pub decreases-turns : goal.decreases-turns
decreases-turns l = l.count - l.made
