use Rattle.std.proofs.Common.{◌<◌, arith}
use Rattle.turn_log.specs.TurnLog.{count_of}
use Rattle.shared_machine.specs.Tallies.{hart_of, numbers_of}
use Rattle.shared_machine.proofs.Eight.{read-each}
use Rattle.shared_machine.proofs.guarded.GuardedMachine.agree.Goals as goal

pub returns-clause-number : goal.returns-clause-number
returns-clause-number g c =
    let was = c.args.self.now in
    let below : hart_of c.args.shares.now < 8 = omega (arith, c.requires, was.locked.same, was.locked.is_log.few_harts) in
    read-each (numbers_of was.books) (count_of was.locked.log.turns) (hart_of c.args.shares.now) _ was.numbers below c.agree.ensures.number
