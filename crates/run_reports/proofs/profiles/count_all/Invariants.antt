use Rattle.std.proofs.Common.{◌-◌, length}
use Rattle.run_reports.proofs.Adding.{UpTo}
use Rattle.run_reports.proofs.profiles.count_all.Given as goal

abbrev pub invariant-runs : goal.invariant-runs
invariant-runs l = UpTo l.fn.machine l.machine l.log.turns l.place l.profiles

abbrev pub decreases-runs : goal.decreases-runs
decreases-runs l = length l.log.turns - l.place
