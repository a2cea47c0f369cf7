use Rattle.std.proofs.Common.{◌≡◌, ℕ, ◌+◌, ◌<◌, ◌≤◌, length}
use Rattle.std.specs.Prelude.{slice_index}
use Rattle.multi_hart.proofs.parts.put_bytes.Given as goal

abbrev pub invariant-loop-i : goal.invariant-loop-i
invariant-loop-i l = record {
  text : l.memory.text ≡ l.fn.memory.text;
  as_many : length l.memory.memory ≡ length l.fn.memory.memory;
  inside : (k : ℕ) → k < l.i → slice_index l.memory.memory (l.at + k) ≡ slice_index l.bytes k;
  before : (k : ℕ) → k < l.at → slice_index l.memory.memory k ≡ slice_index l.fn.memory.memory k;
  behind : (k : ℕ) → l.at + l.i ≤ k → slice_index l.memory.memory k ≡ slice_index l.fn.memory.memory k;
}
