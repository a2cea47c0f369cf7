use Rattle.std.proofs.Common.{◌≡◌, ◌+◌, ◌≤◌, All, length, reverse}
use Rattle.board.specs.Tokens.{name_of, IsGlanceOf}
use Rattle.board.specs.Closing as on_board
use Rattle.turn_log.specs.TurnLog.{count_of}
use Rattle.shared_machine.specs.Log.{tally}
use Rattle.shared_machine.specs.Seats.{AreSeatsAt}
use Rattle.shared_machine.specs.Tallies.{AreSharesAt, each, numbers_of, tallies_of}
use Rattle.shared_machine.proofs.MadeAgain.{counted}
use Rattle.shared_machine.proofs.opening.take_seats.Given as goal

abbrev pub invariant-loop-one : goal.invariant-loop-one
invariant-loop-one g l = record {
  shares : AreSharesAt (λ hart. 0) (λ hart. 0) 0 l.shares.items;
  places : on_board.AreNewSeats (name_of l.board) 0 l.places.items;
  as_many : length l.places.items ≡ length l.shares.items;
  below : length l.shares.items ≤ length l.fn.parts.shares.items;
  enough : length l.shares.items ≤ length l.glances.items;
  glances : All (IsGlanceOf (name_of l.board)) l.glances.items;
  all : length l.seats.items + length l.shares.items ≡ length l.fn.parts.shares.items;
  numbers : numbers_of l.books ≡ each (counted (length l.shares.items) (count_of l.log.turns));
  sums : tallies_of l.books ≡ each (counted (length l.shares.items) (tally g.O.Origin.image g.O.Origin.harts l.log.turns));
  seats : AreSeatsAt (name_of l.board) (count_of l.log.turns) (tally g.O.Origin.image g.O.Origin.harts l.log.turns) (length l.shares.items)
      (reverse l.seats.items);
}

abbrev pub decreases-loop-one : goal.decreases-loop-one
decreases-loop-one g l = length l.shares.items
