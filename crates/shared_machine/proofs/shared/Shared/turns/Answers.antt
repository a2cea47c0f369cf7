use Rattle.std.proofs.Common.{arith}
use Rattle.shared_machine.proofs.shared.Shared.turns.Goals as goal

pub add-requires-clause-room : goal.add-requires-clause-room
add-requires-clause-room g c = omega (arith, c.in_ok-batch.ensures.most, c.args.seat.now.number)
