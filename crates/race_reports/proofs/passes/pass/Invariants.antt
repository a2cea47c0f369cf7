use Rattle.std.proofs.Common.{◌-◌, length}
use Rattle.race_reports.proofs.Passing.{UpTo}
use Rattle.race_reports.proofs.passes.pass.Given as goal

abbrev pub invariant-runs : goal.invariant-runs
invariant-runs l = UpTo l.but l.fn.machine l.machine l.spans l.log.turns l.place

abbrev pub decreases-runs : goal.decreases-runs
decreases-runs l = length l.log.turns - l.place
