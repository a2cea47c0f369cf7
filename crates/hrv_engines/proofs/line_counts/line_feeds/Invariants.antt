use Rattle.std.proofs.Common.{◌≡◌, ◌≤◌, take}
use Rattle.hrv_engines.specs.inner.LineCounts.{line_feeds}
use Rattle.hrv_engines.proofs.line_counts.line_feeds.Given as goal

abbrev pub invariant-loop-byte : goal.invariant-loop-byte
invariant-loop-byte l = (l.count ≡ line_feeds (take l.byte-index l.bytes)) × (l.count ≤ l.byte-index)
