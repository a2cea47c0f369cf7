use Rattle.std.proofs.Common.{rules}
use Rattle.board.proofs.Moves.{looks}
use Rattle.board.proofs.boards.Board.look.Goals as goal

pub load-requires : goal.load-requires
load-requires c = (c.requires.of, (search rules), looks _ _ _ _ _)
