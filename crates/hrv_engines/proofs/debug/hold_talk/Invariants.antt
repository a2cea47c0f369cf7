use Rattle.std.proofs.Common.{◌≡◌, length}
use Rattle.hrv_engines.specs.TalkSoFar.{SoFar}
use Rattle.hrv_engines.proofs.debug.hold_talk.Given as goal

abbrev pub invariant-pieces : goal.invariant-pieces
invariant-pieces g l = record {
  so_far : SoFar l.fn.talk.session.state (λ bytes. g.C.Source.gave l.fn.lines bytes l.lines) (λ bytes. g.O.Sink.took l.fn.out bytes l.out) l.talk.session.state
      l.talk.unended.items;
  lines_well : g.C.Source.failed l.lines ≡ g.C.Source.failed l.fn.lines;
  out_well : g.O.Sink.failed l.out ≡ g.O.Sink.failed l.fn.out;
  out_path : g.O.Sink.place l.out ≡ g.O.Sink.place l.fn.out;
  room : length l.buffer ≡ 16384;
}
