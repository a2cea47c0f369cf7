use Rattle.std.proofs.Common.{subst}
use Rattle.board.specs.Tokens.{name_of}
use Rattle.turn_log.specs.TurnLog.{count_of}
use Rattle.shared_machine.specs.Log.{tally}
use Rattle.shared_machine.specs.Seats.{AreSeatsAt}
use Rattle.shared_machine.proofs.running.run_named.Goals as goal

pub run_out-requires-clause-at : goal.run_out-requires-clause-at
run_out-requires-clause-at g c κs within =
    let board = name_of c.in_ok-shared.shared.board in
    let seats = c.in_ok-shared.seats.items in
    subst (λ turns. AreSeatsAt board (count_of turns) (tally g.O.Origin.image g.O.Origin.harts turns) 0 seats) c.requires.resumed
    (subst (λ harts. AreSeatsAt board (count_of c.args.log.turns) (tally g.O.Origin.image harts c.args.log.turns) 0 seats) c.requires.harts
    (subst (λ image. AreSeatsAt board (count_of c.args.log.turns) (tally image c.args.log.harts c.args.log.turns) 0 seats) c.requires.image
    c.in_ok-shared.ensures.seats))
