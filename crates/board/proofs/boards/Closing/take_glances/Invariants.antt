use Rattle.std.proofs.Common.{◌≡◌, ℕ, List, All}
use Rattle.board.specs.Ending.{Ends}
use Rattle.board.specs.Closing.{SawNoMore}
use Rattle.board.specs.Tokens.{name_of, IsGlanceOf}
use Rattle.board.proofs.boards.Closing.take_glances.Given as goal

abbrev pub invariant-loop-glance : goal.invariant-loop-glance
invariant-loop-glance l =
    (l.self.board ≡ l.fn.self.board) × All (IsGlanceOf (name_of l.fn.self.board)) l.glances.items
    × ((numbers : List ℕ) → Ends l.self numbers → Ends l.fn.self numbers × (All (SawNoMore numbers) l.glances.items
    → All (SawNoMore numbers) l.fn.glances.items))

abbrev pub decreases-loop-glance : goal.decreases-loop-glance
decreases-loop-glance l = goal.left-loop-glance l
