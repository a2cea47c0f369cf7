use Rattle.std.proofs.Common.{[], false, rules}
use Rattle.board.specs.Rule.{known, at_start}
use Rattle.board.proofs.Handing.{enters}
use Rattle.board.proofs.boards.Board.begin_close.Goals as goal

pub load_new_seat-gatherer-requires : goal.load_new_seat-gatherer-requires
load_new_seat-gatherer-requires c = ((search rules), enters _ _ (known (at_start 0 c.args.self.table.shared.key) [] false false, []) _)
