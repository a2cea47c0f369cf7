use Rattle.std.proofs.Common.{◌≡◌, ℕ, List, All}
use Rattle.board.specs.Ending.{Ends}
use Rattle.board.specs.Closing.{HasItsWord}
use Rattle.board.specs.Tokens.{name_of, IsSeatOf}
use Rattle.board.proofs.boards.Closing.take_seats.Given as goal

abbrev pub invariant-loop-seat : goal.invariant-loop-seat
invariant-loop-seat l =
    (l.self.board ≡ l.fn.self.board) × All (IsSeatOf (name_of l.fn.self.board)) l.seats.items
    × ((numbers : List ℕ) → Ends l.self numbers → Ends l.fn.self numbers × (All (HasItsWord numbers) l.seats.items → All (HasItsWord numbers) l.fn.seats.items))

abbrev pub decreases-loop-seat : goal.decreases-loop-seat
decreases-loop-seat l = goal.left-loop-seat l
