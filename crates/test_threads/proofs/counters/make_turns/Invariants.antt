use Rattle.board.specs.Tokens.{name_of}
use Rattle.shared_machine.specs.Seats.{IsSeatOf}
use Rattle.test_threads.proofs.counters.make_turns.Given as goal

abbrev pub invariant-loop-made : goal.invariant-loop-made
invariant-loop-made g l = IsSeatOf (name_of l.shared.board) l.seat
