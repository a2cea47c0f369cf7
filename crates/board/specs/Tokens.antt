-- What a caller knows of a board by its tokens: which board a token is of, what a glance has seen.
-- This project's own.
use Rattle.std.specs.Prelude.{◌≡◌, ℕ, Bool}
use Rattle.atomic_table.specs.Seated.{TableId}
use Rattle.board.specs.declared.boards.Board.{Board}
use Rattle.board.specs.declared.boards.BoardSeat.{BoardSeat}
use Rattle.board.specs.declared.boards.Glance.{Glance}
use Rattle.board.specs.Steps as steps

-- tells boards apart
abbrev pub BoardId : Type 0
BoardId = TableId

-- which board it is
abbrev pub name_of : Board → BoardId
name_of board = board.table.shared.table_id

-- a seat is one of this board
abbrev pub IsSeatOf : TableId → BoardSeat → Type 0
IsSeatOf board seat = seat.token.table_id ≡ board

-- a glance is one of this board
abbrev pub IsGlanceOf : TableId → Glance → Type 0
IsGlanceOf board glance = glance.token.table_id ≡ board

-- what a glance has last seen of a hart, 0 where it has not looked
abbrev pub seen : Glance → ℕ → ℕ
seen glance hart = steps.last_found glance.token.me.0.sights hart

-- a stop was asked through this glance
abbrev pub has_asked : Glance → Bool
has_asked glance = glance.token.me.0.asked

-- the stop word was found set through this glance
abbrev pub has_seen_stop : Glance → Bool
has_seen_stop glance = glance.token.me.0.heard
