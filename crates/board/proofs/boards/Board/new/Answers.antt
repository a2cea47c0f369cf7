use Rattle.board.proofs.Handing.{begins}
use Rattle.board.proofs.boards.Board.new.Goals as goal

pub of_words-requires : goal.of_words-requires
of_words-requires c = begins c.args.harts c.requires.few
