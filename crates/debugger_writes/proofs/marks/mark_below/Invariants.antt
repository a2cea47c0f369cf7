use Rattle.std.proofs.Common.{◌≡◌, ℕ, ◌/◌, ◌<◌, false}
use Rattle.debugger_writes.specs.Pages.{Marked, is_written, lowest}
use Rattle.debugger_writes.proofs.marks.mark_below.Given as goal

abbrev pub invariant-loop-number : goal.invariant-loop-number
invariant-loop-number l = record {
  marked : Marked l.fn.written l.written;
  others : (f : ℕ → ℕ) (i : ℕ) → i / 4096 < l.number → is_written l.written (i / 4096) ≡ false → lowest l.below f i ≡ f i;
}
