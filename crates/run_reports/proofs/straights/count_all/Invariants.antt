use Rattle.std.proofs.Common.{◌≤◌, length}
use Rattle.run_reports.specs.inner.Straight.{AreCounts, AreStraight}
use Rattle.run_reports.proofs.straights.count_all.Given as goal

abbrev pub invariant-words : goal.invariant-words
invariant-words l = record {
  within : l.at ≤ length l.words;
  next : AreStraight l.words l.at l.next;
  are : AreCounts l.words l.counts;
}

abbrev pub decreases-words : goal.decreases-words
decreases-words l = l.at
