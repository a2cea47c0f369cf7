use Rattle.std.proofs.Common.{◌≡◌, ◌-◌, All, length}
use Rattle.board.specs.Rule.{at_start}
use Rattle.board.specs.Closing.{AreNewSeats, IsUnused}
use Rattle.board.specs.Tokens.{name_of}
use Rattle.board.proofs.boards.Board.deal_seats.Given as goal

abbrev pub invariant-loop-hart : goal.invariant-loop-hart
invariant-loop-hart l = (l.dealer.table_id ≡ name_of l.self) × (length l.seats.items ≡ l.hart) × AreNewSeats (name_of l.self) 0 l.seats.items
    × All (IsUnused (name_of l.self)) l.seats.items × (l.dealer.me.0.counts ≡ at_start l.hart (l.self.harts - l.hart))
