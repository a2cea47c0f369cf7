use Rattle.std.proofs.Common.{rules}
use Rattle.board.proofs.Moves.{adds}
use Rattle.board.proofs.boards.Board.add.Goals as goal

pub fetch_add-requires : goal.fetch_add-requires
fetch_add-requires c = (c.requires.of, (search rules), adds _ _ _ _ _ c.args.seat.now.number _ (search rules) (search rules) c.requires.room)
