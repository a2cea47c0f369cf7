use Rattle.std.proofs.Common.{◌≡◌, replicate}
use Rattle.multi_hart.specs.Run.{KeepsShape, run}
use Rattle.debugger_writes.specs.Pages.{Marks}
use Rattle.debugger.specs.inner.Steps.{steps_of}
use Rattle.debugger.proofs.turns.make_counted.Given as goal

abbrev pub invariant-loop-made : goal.invariant-loop-made
invariant-loop-made l = record {
  state : l.machine ≡ run l.fn.machine (replicate l.made l.hart);
  steps : l.made ≡ steps_of l.fn.machine l.hart l.made;
  shape : KeepsShape l.fn.machine l.machine;
  marks : Marks l.fn.machine.memory l.machine.memory l.fn.written l.written;
}
