use Rattle.std.specs.Prelude.{map}
use Rattle.std.specs.String.{string_bytes}
use Rattle.hrv_engines.specs.declared.texts.Extent.TheVariants.{Bytes}
use Rattle.hrv_engines.specs.Devices.{NoneFailed, most_picture_bytes}
use Rattle.hrv_engines.specs.inner.Fronts.{GaveKept}
use Rattle.hrv_engines.proofs.Sources.{GaveFirst}
use Rattle.hrv_engines.proofs.drawing.read_texts.Given as goal

-- the sources before the next one gave their texts, and the others are as they were
abbrev pub invariant-loop-source : goal.invariant-loop-source
invariant-loop-source g l = record {
  gave : GaveFirst (GaveKept (Bytes most_picture_bytes) g.S.Source.gave g.S.Source.ended) l.fn.sources (map string_bytes l.texts.items) l.sources l.source-index;
  well : NoneFailed g.S.Source.failed l.fn.sources l.sources;
}
