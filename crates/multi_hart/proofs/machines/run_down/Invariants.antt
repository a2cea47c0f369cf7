use Rattle.std.proofs.Common.{◌≡◌, ◌≤◌, ◌-◌, replicate}
use Rattle.hart_core.specs.declared.harts.Status.TheVariants.{Running}
use Rattle.multi_hart.specs.Run.{run}
use Rattle.multi_hart.specs.TurnsInARow.{StepsOn}
use Rattle.multi_hart.specs.inner.Alone.{alone}
use Rattle.multi_hart.proofs.machines.run_down.Given as goal

abbrev pub invariant-loop-next : goal.invariant-loop-next
invariant-loop-next l = record {
  some : 1 ≤ l.left;
  few : l.left ≤ l.fn.most;
  state : alone l.memory l.hart ≡ run (alone l.fn.memory l.fn.hart) (replicate (l.fn.most - l.left) 0);
  text : l.memory.text ≡ l.fn.memory.text;
  runs : l.hart.status ≡ Running;
  pc : l.pc ≡ l.hart.pc;
  steps : StepsOn (alone l.fn.memory l.fn.hart) 0 (l.fn.most - l.left);
}

abbrev pub decreases-loop-next : goal.decreases-loop-next
decreases-loop-next l = l.left
