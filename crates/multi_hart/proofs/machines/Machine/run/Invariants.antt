use Rattle.std.proofs.Common.{◌≡◌, ◌<◌, length, take, All}
use Rattle.multi_hart.specs.Run.{run, KeepsShape}
use Rattle.multi_hart.proofs.machines.Machine.run.Given as goal

abbrev pub invariant-loop-at : goal.invariant-loop-at
invariant-loop-at l = record {
  state : l.self ≡ run l.fn.self (take l.at l.turns);
  known : All (λ hart. hart < length l.fn.self.harts) (take l.at l.turns);
  shape : KeepsShape l.fn.self l.self;
}
