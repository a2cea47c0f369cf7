use Rattle.std.proofs.Common.{subst}
use Rattle.std.specs.Prelude.{IfOk}
use Rattle.board.specs.Tokens.{name_of}
use Rattle.turn_log.specs.TurnLog.{count_of}
use Rattle.shared_machine.specs.Log.{tally}
use Rattle.shared_machine.specs.Seats.{AreSeatsAt}
use Rattle.shared_machine.proofs.shared.Shared.new.Goals as goal

pub returns-clause-seats : goal.returns-clause-seats
returns-clause-seats g c =
    subst (λ log. IfOk c.resume.result (λ made. AreSeatsAt (name_of made.0.board) (count_of log.turns) (tally c.args.image log.harts log.turns) 0 made.1.items))
    c.new.ensures c.resume.ensures.seats
