use Rattle.std.proofs.Common.{◌≡◌, ◌+◌, ◌≤◌, true}
use Rattle.board.specs.Tokens.{name_of, has_asked}
use Rattle.shared_machine.specs.Seats.{IsSeatOf, hart, number}
use Rattle.shared_machine.proofs.driving.make_turns.Given as goal

abbrev pub invariant-loop-left : goal.invariant-loop-left
invariant-loop-left g l = IsSeatOf (name_of l.shared.board) l.seat × (hart l.seat ≡ hart l.fn.seat) × (number l.seat + l.left ≡ number l.fn.seat + l.fn.limit)
    × (l.left ≤ l.fn.limit) × (has_asked l.seat.glance ≡ has_asked l.fn.seat.glance) × (has_asked l.fn.seat.glance ≡ true → l.left ≡ l.fn.limit)

abbrev pub decreases-loop-left : goal.decreases-loop-left
decreases-loop-left g l = l.left
