use Rattle.std.proofs.Common.{◌≡◌, ◌-◌, ◌≤◌, length, take}
use Rattle.multi_hart.specs.Run.{KeepsShape, run}
use Rattle.shared_machine.specs.Log.{tally_from}
use Rattle.shared_machine.specs.Tallies.{each}
use Rattle.shared_machine.proofs.replaying.replay.Given as goal

abbrev pub invariant-loop-hart : goal.invariant-loop-hart
invariant-loop-hart l = record {
  within : l.place ≤ length l.log.turns;
  state : l.machine ≡ run l.fn.machine (take l.place l.log.turns);
  shape : KeepsShape l.fn.machine l.machine;
  tallies : l.tallies ≡ each (tally_from l.fn.machine (take l.place l.log.turns));
}

abbrev pub decreases-loop-hart : goal.decreases-loop-hart
decreases-loop-hart l = length l.log.turns - l.place
