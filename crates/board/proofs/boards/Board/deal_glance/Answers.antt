use Rattle.std.proofs.Common.{rules}
use Rattle.board.proofs.Handing.{deals-glance}
use Rattle.board.proofs.boards.Board.deal_glance.Goals as goal

pub split_seat-token-requires : goal.split_seat-token-requires
split_seat-token-requires c = (c.requires, (search rules), deals-glance _ _ _)
