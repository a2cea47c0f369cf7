use Rattle.std.proofs.Common.{◌≡◌, ℕ, length, None}
use Rattle.debugger_writes.specs.Pages.{slot_at}
use Rattle.debugger.proofs.kept.keep_none.Given as goal

abbrev pub invariant-loop-page : goal.invariant-loop-page
invariant-loop-page l = record {
  slots : length l.below.items ≡ l._page;
  flags : length l.written.items ≡ l._page;
  empty : (n : ℕ) → slot_at l.below.items n ≡ None;
}
