use Rattle.std.proofs.Common.{◌≡◌, All, length}
use Rattle.board.specs.Closing.{IsNewGlance}
use Rattle.board.specs.Tokens.{name_of}
use Rattle.board.proofs.boards.Board.deal_glances.Given as goal

abbrev pub invariant-loop-dealt : goal.invariant-loop-dealt
invariant-loop-dealt l = (l.dealer.table_id ≡ name_of l.self) × (length l.glances.items ≡ l._dealt) × All (IsNewGlance (name_of l.self)) l.glances.items
