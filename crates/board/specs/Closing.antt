-- What the words of a board say of its seats and glances.
-- This project's own.
use Rattle.std.specs.Prelude.{◌≡◌, ℕ, suc, ◌<◌, ◌≤◌, false, List, [], ◌∷◌, slice_index}
use Rattle.atomic_table.specs.Seated.{TableId}
use Rattle.board.specs.declared.boards.BoardSeat.{BoardSeat}
use Rattle.board.specs.declared.boards.Glance.{Glance}
use Rattle.board.specs.Rule.{most_harts}
use Rattle.board.specs.Tokens.{IsSeatOf, IsGlanceOf, seen, has_asked, has_seen_stop}

-- a seat's number is its hart's word
abbrev pub HasItsWord : List ℕ → BoardSeat → Type 0
HasItsWord words seat = slice_index words seat.hart ≡ seat.number

-- a glance has seen no more than the words
abbrev pub SawNoMore : List ℕ → Glance → Type 0
SawNoMore words glance = (hart : ℕ) → hart < most_harts → seen glance hart ≤ slice_index words hart

-- the seat of a hart before anything was added
pub record IsNewSeat (board : TableId) (which : ℕ) (seat : BoardSeat) : Type 0 where
  pub of : IsSeatOf board seat
  pub hart : seat.hart ≡ which
  pub number : seat.number ≡ 0

-- the seats of the harts from one on
abbrev pub AreNewSeats : TableId → ℕ → List BoardSeat → Type 0
AreNewSeats board hart [] = Unit {0}
AreNewSeats board hart (seat ∷ others) = IsNewSeat board hart seat × AreNewSeats board (suc hart) others

-- a seat to which nothing was added
abbrev pub IsUnused : TableId → BoardSeat → Type 0
IsUnused board seat = IsSeatOf board seat × (seat.number ≡ 0)

-- a glance that has seen nothing
pub record IsNewGlance (board : TableId) (glance : Glance) : Type 0 where
  pub of : IsGlanceOf board glance
  pub seen : (hart : ℕ) → seen glance hart ≡ 0
  pub asked : has_asked glance ≡ false
  pub heard : has_seen_stop glance ≡ false
