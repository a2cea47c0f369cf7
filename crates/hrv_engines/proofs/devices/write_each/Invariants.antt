use Rattle.std.proofs.Common.{length, ◌-◌, ◌≡◌, ◌≤◌, take}
use Rattle.hrv_engines.proofs.devices.write_each.Given as goal

abbrev pub invariant-loop-written : goal.invariant-loop-written
invariant-loop-written g l = record {
  within : l.written ≤ length l.bytes;
  taken : g.S.Sink.took l.fn.sink (take l.written l.bytes) l.sink;
  well : g.S.Sink.failed l.sink ≡ g.S.Sink.failed l.fn.sink;
  path : g.S.Sink.place l.sink ≡ g.S.Sink.place l.fn.sink;
}

abbrev pub decreases-loop-written : goal.decreases-loop-written
decreases-loop-written g l = length l.bytes - l.written
