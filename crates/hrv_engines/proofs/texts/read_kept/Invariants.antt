use Rattle.std.proofs.Common.{◌≡◌, length}
use Rattle.hrv_engines.specs.inner.Fronts.{IsReadSoFar}
use Rattle.hrv_engines.proofs.texts.read_kept.Given as goal

abbrev pub invariant-pieces : goal.invariant-pieces
invariant-pieces g l = record {
  so_far : (all : _) × g.S.Source.gave l.fn.source all l.source × IsReadSoFar l.reading all;
  extent : l.reading.kept.extent ≡ l.fn.extent;
  well : g.S.Source.failed l.source ≡ g.S.Source.failed l.fn.source;
  path : g.S.Source.place l.source ≡ g.S.Source.place l.fn.source;
  room : length l.buffer ≡ 16384;
}
