use Rattle.std.proofs.Common.{◌-◌}
use Rattle.run_reports.specs.inner.Counting.{AreRaised}
use Rattle.run_reports.proofs.profiles.raise.Given as goal

-- the counts up to here are raised
abbrev pub invariant-loop-at : goal.invariant-loop-at
invariant-loop-at l = AreRaised l.place (l.at - l.place) l.fn.counts l.counts
