use Rattle.std.proofs.Common.{◌-◌, length}
use Rattle.debugger_blame.proofs.Passing.{UpTo}
use Rattle.debugger_blame.proofs.passes.pass.Given as goal

abbrev pub invariant-runs : goal.invariant-runs
invariant-runs l = UpTo l.fn.machine l.machine l.log.turns l.place l.address l.last

abbrev pub decreases-runs : goal.decreases-runs
decreases-runs l = length l.log.turns - l.place
