use Rattle.std.proofs.Common.{◌≡◌, ◌-◌, ◌^◌, ◌+◌, ◌≤◌, vec_len, length}
use Rattle.hrv_engines.proofs.devices.read_past.Given as goal

abbrev pub invariant-loop-buffer : goal.invariant-loop-buffer
invariant-loop-buffer g l = record {
  given : g.S.Source.gave l.fn.source l.all.items l.source;
  well : g.S.Source.failed l.source ≡ g.S.Source.failed l.fn.source;
  path : g.S.Source.place l.source ≡ g.S.Source.place l.fn.source;
  room : length l.buffer ≡ 16384;
  few : length l.all.items ≤ l.fn.most + 65536;
}

abbrev pub decreases-loop-buffer : goal.decreases-loop-buffer
decreases-loop-buffer g l = 2 ^ 64 - vec_len l.all
