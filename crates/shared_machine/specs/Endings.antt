-- What the log and the board say of a seat at the end.
-- This project's own.
use Rattle.std.specs.Prelude.{◌≡◌, ℕ, List, slice_index}
use Rattle.turn_log.specs.TurnLog.{count_of}
use Rattle.loader.specs.Image.{ImageContents}
use Rattle.shared_machine.specs.declared.origins.Origin.{Ghosts}
use Rattle.shared_machine.specs.declared.seats.Seat.{Seat}
use Rattle.shared_machine.specs.Log as log
use Rattle.shared_machine.specs.Seats.{hart, number, tally}

-- the turns and their outcomes that a seat was told are those of its hart in the log, and the hart's word is their number
pub record IsToldIn {O F : Type 0} {G : Ghosts O} (image : ImageContents) (harts : ℕ) (turns words : List ℕ) (seat : Seat O F G) : Type 0 where
  pub count : number seat ≡ count_of turns (hart seat)
  pub sum : tally seat ≡ log.tally image harts turns (hart seat)
  pub word : slice_index words (hart seat) ≡ number seat
