use Rattle.std.proofs.Common.{◌≡◌, ℕ, List, All}
use Rattle.board.specs.Tokens.{name_of}
use Rattle.board.specs.Ending.{Ends}
use Rattle.shared_machine.specs.Seats.{IsSeatOf}
use Rattle.shared_machine.specs.Endings.{IsToldIn}
use Rattle.shared_machine.proofs.shared.Shared.settle.Given as goal

abbrev pub invariant-loop-seat : goal.invariant-loop-seat
invariant-loop-seat g l = record {
  name : name_of l.closing.board ≡ name_of l.fn.self.board;
  harts : l.closing.board.harts ≡ l.fn.self.board.harts;
  of : All (IsSeatOf (name_of l.fn.self.board)) l.seats.items;
  told : (words : List ℕ) → Ends l.closing words → All (IsToldIn g.O.Origin.image g.O.Origin.harts l.guarded.locked.log.turns words) l.seats.items
      → All (IsToldIn g.O.Origin.image g.O.Origin.harts l.guarded.locked.log.turns words) l.fn.seats.items;
}

abbrev pub decreases-loop-seat : goal.decreases-loop-seat
decreases-loop-seat g l = goal.left-loop-seat g l
