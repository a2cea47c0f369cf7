use Rattle.std.proofs.Common.{◌≡◌, ◌≤◌, ◌-◌, length}
use Rattle.loader.specs.Spelling.{padded}
use Rattle.hrv_compiler.proofs.data.pad.Given as goal

abbrev pub invariant-loop-bytes : goal.invariant-loop-bytes
invariant-loop-bytes l = record {
  within : length l.bytes.items ≤ l.size;
  same : padded l.size l.bytes.items ≡ padded l.size l.initial.bytes.items;
}

abbrev pub decreases-loop-bytes : goal.decreases-loop-bytes
decreases-loop-bytes l = l.size - length l.bytes.items
