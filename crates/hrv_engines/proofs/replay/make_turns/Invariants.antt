use Rattle.std.proofs.Common.{◌≡◌, ◌-◌, ◌≤◌, length, drop}
use Rattle.multi_hart.specs.Run.{run, KeepsShape}
use Rattle.hrv_engines.proofs.replay.make_turns.Given as goal

-- the turns so far are made, and those that are left lead to where all of them lead
abbrev pub invariant-loop-hart : goal.invariant-loop-hart
invariant-loop-hart l = record {
  state : run l.machine (drop l.place l.log.turns) ≡ run l.fn.machine l.log.turns;
  within : l.place ≤ length l.log.turns;
  shape : KeepsShape l.fn.machine l.machine;
}

abbrev pub decreases-loop-hart : goal.decreases-loop-hart
decreases-loop-hart l = length l.log.turns - l.place
