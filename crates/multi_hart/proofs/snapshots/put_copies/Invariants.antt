use Rattle.std.proofs.Common.{◌≡◌, length, take}
use Rattle.multi_hart.proofs.snapshots.put_copies.Given as goal

abbrev pub invariant-loop-at : goal.invariant-loop-at
invariant-loop-at l = record {
  length : length l.places ≡ length l.harts;
  so_far : take l.at l.places ≡ take l.at l.harts;
}
