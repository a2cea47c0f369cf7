use Rattle.std.proofs.Common.{◌≡◌, ◌-◌, length}
use Rattle.hrv_engines.proofs.TraceSteps.{SentUpTo}
use Rattle.hrv_engines.proofs.trace.write_lines.Given as goal

abbrev pub invariant-pieces : goal.invariant-pieces
invariant-pieces g l = record {
  sent : SentUpTo l.wanted l.fn.machine l.log.turns l.place l.machine (λ bytes. g.O.Sink.took l.fn.out bytes l.out);
  out_well : g.O.Sink.failed l.out ≡ g.O.Sink.failed l.fn.out;
  out_path : g.O.Sink.place l.out ≡ g.O.Sink.place l.fn.out;
}

abbrev pub decreases-pieces : goal.decreases-pieces
decreases-pieces g l = length l.log.turns - l.place
