use Rattle.std.proofs.Common.{◌≡◌, ℕ, length}
use Rattle.multi_hart.specs.Parts.{with_data}
use Rattle.debugger_writes.specs.Pages.{Holds}
use Rattle.debugger_writes.proofs.Laying.{up_to}
use Rattle.debugger_writes.proofs.layers.put_below.Given as goal

abbrev pub invariant-loop-slot : goal.invariant-loop-slot
invariant-loop-slot l = record {
  state : l.machine ≡ with_data l.fn.machine l.machine.memory;
  as_many : length l.machine.memory ≡ length l.fn.machine.memory;
  holds : (f : ℕ → ℕ) → Holds l.fn.machine.memory f → Holds l.machine.memory (up_to l.slot-index l.below f);
}
