use Rattle.std.proofs.Common.{◌≡◌, length}
use Rattle.std.specs.List.{All}
use Rattle.run_reports.specs.inner.Counting.{IsUncounted}
use Rattle.run_reports.proofs.profiles.uncounted.Given as goal

abbrev pub invariant-loop-hart : goal.invariant-loop-hart
invariant-loop-hart l = record {
  count : length l.profiles.items ≡ l._hart;
  none : All (IsUncounted l.words) l.profiles.items;
}
