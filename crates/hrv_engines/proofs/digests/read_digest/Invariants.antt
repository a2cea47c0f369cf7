use Rattle.std.proofs.Common.{◌≡◌, length}
use Rattle.hrv_engines.proofs.DigestedFiles.{Fed}
use Rattle.hrv_engines.proofs.digests.read_digest.Given as goal

-- what was read so far is what the hasher holds
abbrev pub invariant-pieces : goal.invariant-pieces
invariant-pieces g l = record {
  fed : Fed g.S.Source.gave l.fn.file l.file l.hasher;
  well : g.S.Source.failed l.file ≡ g.S.Source.failed l.fn.file;
  path : g.S.Source.place l.file ≡ g.S.Source.place l.fn.file;
  room : length l.buffer ≡ 16384;
}
