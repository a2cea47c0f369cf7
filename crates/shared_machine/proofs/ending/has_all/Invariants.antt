use Rattle.std.proofs.Common.{◌≡◌, true}
use Rattle.shared_machine.specs.Seats.{has_all}
use Rattle.shared_machine.proofs.ending.has_all.Given as goal

abbrev pub invariant-loop-hart : goal.invariant-loop-hart
invariant-loop-hart g l = has_all l.hart l.seats ≡ true
