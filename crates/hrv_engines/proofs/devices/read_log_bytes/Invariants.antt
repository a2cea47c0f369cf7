use Rattle.std.proofs.Common.{◌≡◌, length}
use Rattle.hrv_engines.proofs.devices.read_log_bytes.Given as goal

abbrev pub invariant-pieces : goal.invariant-pieces
invariant-pieces g l = record {
  given : g.S.Source.gave l.fn.source l.all.items l.source;
  well : g.S.Source.failed l.source ≡ g.S.Source.failed l.fn.source;
  path : g.S.Source.place l.source ≡ g.S.Source.place l.fn.source;
  room : length l.buffer ≡ 16384;
}
