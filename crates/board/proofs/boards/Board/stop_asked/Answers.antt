use Rattle.std.proofs.Common.{rules}
use Rattle.board.proofs.Moves.{hears}
use Rattle.board.proofs.boards.Board.stop_asked.Goals as goal

pub load-requires : goal.load-requires
load-requires c = (c.requires, (search rules), hears _ _ _ _)
