use Rattle.std.proofs.Common.{rules}
use Rattle.board.proofs.Handing.{deals-seat}
use Rattle.board.proofs.boards.Board.deal_seat.Goals as goal

pub split_seat-token-requires : goal.split_seat-token-requires
split_seat-token-requires c = (c.requires.of, (search rules), deals-seat _ _ _)
