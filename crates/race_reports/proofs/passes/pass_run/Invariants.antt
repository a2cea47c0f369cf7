use Rattle.std.proofs.Common.{◌-◌}
use Rattle.race_reports.proofs.Passing.{SoFar}
use Rattle.race_reports.proofs.passes.pass_run.Given as goal

abbrev pub invariant-turns : goal.invariant-turns
invariant-turns l = SoFar l.but l.fn.machine l.machine l.spans l.hart l.made l.count

abbrev pub decreases-turns : goal.decreases-turns
decreases-turns l = l.count - l.made
