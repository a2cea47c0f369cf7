use Rattle.board.proofs.boards.Board.close.Goals as goal

pub returns-clause-numbers : goal.returns-clause-numbers
returns-clause-numbers c = (c.take_seats.ensures.known _ (c.take_glances.ensures.known _ c.finish.ensures.ends).0).1

pub returns-clause-seen : goal.returns-clause-seen
returns-clause-seen c = (c.take_glances.ensures.known _ c.finish.ensures.ends).1
