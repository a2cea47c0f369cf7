use Rattle.hrv_engines.specs.Devices.{NoneFailed}
use Rattle.hrv_engines.specs.Digests.{GaveDigest}
use Rattle.hrv_engines.proofs.Sources.{GaveFirst}
use Rattle.hrv_engines.proofs.digests.read_digests.Given as goal

-- the files before the next one gave their digests, and the others are as they were
abbrev pub invariant-loop-file : goal.invariant-loop-file
invariant-loop-file g l = record {
  gave : GaveFirst (GaveDigest g.S.Source.gave g.S.Source.ended) l.fn.files l.digests.items l.files l.file-index;
  well : NoneFailed g.S.Source.failed l.fn.files l.files;
}
