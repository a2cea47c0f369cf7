use Rattle.std.proofs.Common.{◌≡◌, ◌-◌, ◌≤◌, replicate}
use Rattle.std.specs.List.{list_any}
use Rattle.hart_core.specs.declared.harts.Status.TheVariants.{Running}
use Rattle.multi_hart.specs.Run.{KeepsShape, hart_at, outcome, run}
use Rattle.debugger_writes.specs.Pages.{Marks}
use Rattle.debugger.specs.Stops.{differs}
use Rattle.debugger.specs.inner.Steps.{IsQuietUntil, steps_of}
use Rattle.debugger.proofs.turns.make_until.Given as goal

abbrev pub invariant-loop-turns : goal.invariant-loop-turns
invariant-loop-turns l = record {
  state : l.machine ≡ run l.fn.machine (replicate l.turns l.hart);
  some : 1 ≤ l.turns;
  runs : (hart_at (run l.fn.machine (replicate (l.turns - 1) l.hart)) l.hart).status ≡ Running;
  told : l.told.outcome ≡ outcome (run l.fn.machine (replicate (l.turns - 1) l.hart)) l.hart;
  steps : steps_of l.fn.machine l.hart l.turns ≡ l.turns;
  few : l.turns ≤ l.most;
  quiet : IsQuietUntil l.fn.machine l.hart l.marks.breaks.now l.marks.watches.now l.turns;
  changed : l.told.changed ≡ list_any (differs (run l.fn.machine (replicate (l.turns - 1) l.hart)) l.machine) l.marks.watches.now;
  shape : KeepsShape l.fn.machine l.machine;
  marks : Marks l.fn.machine.memory l.machine.memory l.fn.written l.written;
}

abbrev pub decreases-loop-turns : goal.decreases-loop-turns
decreases-loop-turns l = l.most - l.turns
