use Rattle.std.proofs.Common.{take}
use Rattle.hrv_engines.specs.inner.Unended.{IsKeptOf}
use Rattle.hrv_engines.proofs.keeping.keep.Given as goal

abbrev pub invariant-loop-byte : goal.invariant-loop-byte
invariant-loop-byte l = IsKeptOf l.fn.line.items (take l.byte-index l.bytes) l.line.items
