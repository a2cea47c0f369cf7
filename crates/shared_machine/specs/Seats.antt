-- What is known of a machine's seats.
-- This project's own.
use Rattle.std.specs.Prelude.{◌≡◌, ℕ, zero, suc, ◌==◌, ◌&&◌, Bool, true, None, List, [], ◌∷◌}
use Rattle.std.specs.List.{list_any}
use Rattle.board.specs.Tokens.{BoardId}
use Rattle.board.specs.Tokens as board
use Rattle.shared_machine.specs.declared.origins.Origin.{Ghosts}
use Rattle.shared_machine.specs.declared.seats.Seat.{Seat}
use Rattle.shared_machine.specs.Tallies.{hart_of, number_in, tally_in}

-- which hart a seat is, how many turns it has made, and the sum of their codes
abbrev pub hart : {O F : Type 0} {G : Ghosts O} → Seat O F G → ℕ
hart seat = hart_of seat.shares

abbrev pub number : {O F : Type 0} {G : Ghosts O} → Seat O F G → ℕ
number seat = number_in seat.shares

abbrev pub tally : {O F : Type 0} {G : Ghosts O} → Seat O F G → ℕ
tally seat = tally_in seat.shares

-- a seat is one of the machine that has this board
abbrev pub IsSeatOf : {O F : Type 0} {G : Ghosts O} → BoardId → Seat O F G → Type 0
IsSeatOf name seat = board.IsSeatOf name seat.place × board.IsGlanceOf name seat.glance

-- the seat of a hart that has made this many turns, with this tally, before any thread has run it
pub record IsSeatAt {O F : Type 0} {G : Ghosts O} (name : BoardId) (turns sum which : ℕ) (seat : Seat O F G) : Type 0 where
  pub of : IsSeatOf name seat
  pub is : hart seat ≡ which
  pub made : number seat ≡ turns
  pub tallied : tally seat ≡ sum
  pub fresh : seat.ended ≡ None

-- the seats of the harts from one on, where these are the harts' numbers and tallies
abbrev pub AreSeatsAt : {O F : Type 0} {G : Ghosts O} → BoardId → (ℕ → ℕ) → (ℕ → ℕ) → ℕ → List (Seat O F G) → Type 0
AreSeatsAt name numbers tallies which [] = Unit {0}
AreSeatsAt name numbers tallies which (seat ∷ others) = IsSeatAt name (numbers which) (tallies which) which seat
    × AreSeatsAt name numbers tallies (suc which) others

-- before any turn
abbrev pub AreNewSeats : {O F : Type 0} {G : Ghosts O} → BoardId → ℕ → List (Seat O F G) → Type 0
AreNewSeats name which seats = AreSeatsAt name (λ hart. 0) (λ hart. 0) which seats

-- a hart has a seat among them
abbrev pub has_hart : {O F : Type 0} {G : Ghosts O} → List (Seat O F G) → ℕ → Bool
has_hart seats which = list_any (λ seat. hart seat == which) seats

-- each of this many harts has one
abbrev pub has_all : {O F : Type 0} {G : Ghosts O} → ℕ → List (Seat O F G) → Bool
has_all zero seats = true
has_all (suc which) seats = has_all which seats && has_hart seats which
