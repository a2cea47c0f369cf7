use Rattle.std.proofs.Common.{◌≡◌, ◌+◌, ◌≤◌, ◌==◌, cond, get_or, arith}
use Rattle.hrv_engines.proofs.ScheduleFronts.{feed_counted, next_count, other_passed}
use Rattle.hrv_engines.proofs.line_counts.line_feeds.Goals as goal
use Rattle.hrv_engines.proofs.line_counts.line_feeds.Goals.{then-byte-eq10, else-byte-eq10}

pub loop-byte-preserved : goal.loop-byte-preserved
loop-byte-preserved c =
    let bytes = c.args.bytes.now in
    let i = c.loop-byte.byte-index in
    let byte = get_or bytes i 0 in
    let made : c.if-byte-eq10.count ≡ c.loop-byte.count + cond (byte == 10) 1 0 = elim c.if-byte-eq10.branch [
      | then-byte-eq10 w ↦ feed_counted byte c.loop-byte.count c.if-byte-eq10.count w.if-byte-eq10.true w.count-is
      | else-byte-eq10 w ↦ other_passed byte c.loop-byte.count c.if-byte-eq10.count w.if-byte-eq10.false w.count-is
    ] in
    let few : c.if-byte-eq10.count ≤ i + 1 = elim c.if-byte-eq10.branch [
      | then-byte-eq10 w ↦ omega (arith, w.count-is, c.loop-byte.invariant.1)
      | else-byte-eq10 w ↦ omega (arith, w.count-is, c.loop-byte.invariant.1)
    ] in
    (next_count bytes i c.loop-byte.count c.if-byte-eq10.count c.loop-byte-test.true c.loop-byte.invariant.0 made, few)
