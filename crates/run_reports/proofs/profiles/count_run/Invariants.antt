use Rattle.std.proofs.Common.{◌-◌}
use Rattle.run_reports.proofs.Adding.{SoFar}
use Rattle.run_reports.proofs.profiles.count_run.Given as goal

abbrev pub invariant-turns : goal.invariant-turns
invariant-turns l = SoFar l.fn.machine l.machine l.hart l.made l.count l.fn.profile l.profile

abbrev pub decreases-turns : goal.decreases-turns
decreases-turns l = l.count - l.made
