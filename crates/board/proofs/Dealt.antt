-- Seats are dealt one after the other.
use Rattle.std.proofs.Common.{ℕ, suc, ◌+◌, List, [], ◌∷◌, ◌++◌, length, subst, arith}
use Rattle.atomic_table.specs.Seated.{TableId}
use Rattle.board.specs.declared.boards.BoardSeat.{BoardSeat}
use Rattle.board.specs.Closing.{IsNewSeat, AreNewSeats}

pub new-push : (board : TableId) (hart : ℕ) (seats : List BoardSeat) (seat : BoardSeat) → AreNewSeats board hart seats
    → IsNewSeat board (hart + length seats) seat → AreNewSeats board hart (seats ++ seat ∷ [])
new-push board hart [] seat new one = (subst (λ n. IsNewSeat board n seat) (omega (arith)) one, tt)
new-push board hart (first ∷ others) seat new one = (
  new.0,
  new-push board (suc hart) others seat new.1 (subst (λ n. IsNewSeat board n seat) (omega (arith))
      one),
)
