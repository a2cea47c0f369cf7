use Rattle.std.proofs.Common.{◌≡◌, ℕ, ◌<◌, length, All}
use Rattle.debugger_writes.specs.declared.pages.PageCopy.{PageCopy}
use Rattle.debugger_writes.specs.Pages.{AreBelow, IsPage, lowest, over}
use Rattle.debugger_writes.proofs.layers.settle.Given as goal

abbrev pub invariant-loop-page : goal.invariant-loop-page
invariant-loop-page l = record {
  as_many : length l.below ≡ length l.fn.below;
  pages : (size : ℕ) → AreBelow size l.fn.below → All (IsPage size) l.yielded → AreBelow size l.below;
  lowest_is : All (λ (page : PageCopy). page.number < length l.fn.below) l.yielded → (f : ℕ → ℕ) (i : ℕ)
      → lowest l.below f i ≡ over l.yielded (lowest l.fn.below f) i;
}
