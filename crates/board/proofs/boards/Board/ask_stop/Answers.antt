use Rattle.std.proofs.Common.{rules}
use Rattle.board.proofs.Moves.{asks}
use Rattle.board.proofs.boards.Board.ask_stop.Goals as goal

pub store-requires : goal.store-requires
store-requires c = (c.requires, (search rules), asks _ _ _ _)
