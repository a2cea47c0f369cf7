use Rattle.std.proofs.Common.{◌≡◌, ◌≤◌, length}
use Rattle.turn_accesses.specs.Quiet.{AreCounts, AreQuiet}
use Rattle.turn_accesses.proofs.quiets.count_all.Given as goal

abbrev pub invariant-words : goal.invariant-words
invariant-words l = record {
  within : l.at ≤ length l.words;
  as_many : length l.counts ≡ length l.words;
  next : AreQuiet l.words l.at l.next;
  are : AreCounts l.words l.counts;
}

abbrev pub decreases-words : goal.decreases-words
decreases-words l = l.at
