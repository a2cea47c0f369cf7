-- What a drive does to a seat.
-- This project's own.
use Rattle.std.specs.Prelude.{◌≡◌, ◌≢◌, ℕ, ◌+◌, ◌%◌, ◌<◌, ◌≤◌, ◌==◌, Bool, true, false, Option, Some, None, List, length, slice_index_or}
use Rattle.std.specs.List.{list_any}
use Rattle.turn_log.specs.TurnLog.{most_turns}
use Rattle.board.specs.Tokens.{BoardId, has_asked, has_seen_stop}
use Rattle.shared_machine.specs.declared.origins.Origin.{Ghosts}
use Rattle.shared_machine.specs.declared.seats.Seat.{Seat}
use Rattle.shared_machine.specs.declared.seats.Ended.{Ended}
use Rattle.shared_machine.specs.declared.seats.Ended.TheVariants.{Halted, Limit, Shut, Refused}
use Rattle.shared_machine.specs.declared.refusals.TurnRefusal.{TurnRefusal}
use Rattle.shared_machine.specs.declared.refusals.TurnRefusal.TheVariants.{OutOfMemory, TurnsSpent, StopAsked}
use Rattle.shared_machine.specs.Refusals.{number_of}
use Rattle.shared_machine.specs.Seats.{IsSeatOf, hart, number, tally}

-- a seat whose turns are spent has made 2^40, and one that was told of a stop has found it
abbrev pub RefusedSo : {O F : Type 0} {G : Ghosts O} → Seat O F G → TurnRefusal → Type 0
RefusedSo seat OutOfMemory = Unit {0}
RefusedSo seat TurnsSpent = most_turns ≤ number seat
RefusedSo seat StopAsked = has_seen_stop seat.glance ≡ true

-- Why a thread ended that was to make this many turns at most, where the seat had made this number before: the hart
-- doesn't run any more, all of them were made, the gate isn't always open, or a turn was refused
abbrev pub EndedSo : {O F : Type 0} {G : Ghosts O} → Bool → ℕ → ℕ → Seat O F G → Ended → Type 0
EndedSo always limit before seat Halted = tally seat % 16 ≢ 0
EndedSo always limit before seat Limit = number seat ≡ before + limit
EndedSo always limit before seat Shut = always ≡ false
EndedSo always limit before seat (Refused why) = RefusedSo seat why

abbrev pub HasEndedSo : {O F : Type 0} {G : Ghosts O} → Bool → ℕ → ℕ → Seat O F G → Option Ended → Type 0
HasEndedSo always limit before seat None = ⊥
HasEndedSo always limit before seat (Some ended) = EndedSo always limit before seat ended

-- the number of the refusal with which a thread ended, 0 where it ended otherwise
abbrev pub refused_by : Option Ended → ℕ
refused_by None = 0
refused_by (Some Halted) = 0
refused_by (Some Limit) = 0
refused_by (Some Shut) = 0
refused_by (Some (Refused why)) = number_of why

-- a thread of one of the seats ended with the refusal of this number
abbrev pub has_refused : {O F : Type 0} {G : Ghosts O} → ℕ → List (Seat O F G) → Bool
has_refused number seats = list_any (λ seat. refused_by seat.ended == number) seats

-- a seat before and after a drive
pub record IsDriven {O F : Type 0} {G : Ghosts O} (name : BoardId) (always : Bool) (limit : ℕ) (old new : Seat O F G) : Type 0 where
  pub of : IsSeatOf name new
  pub same : hart new ≡ hart old
  pub some : number old ≤ number new
  pub few : number new ≤ number old + limit
  pub ended : HasEndedSo always limit (number old) new new.ended
  -- one that had asked for a stop made no turn, and says so where it was to make one
  pub asked : has_asked new.glance ≡ has_asked old.glance
  pub stopped : has_asked old.glance ≡ true → number new ≡ number old
  pub told : has_asked old.glance ≡ true → always ≡ true → 1 ≤ limit → number old < most_turns → new.ended ≡ Some (Refused StopAsked)

-- each of the seats
abbrev pub AreDriven : {O F : Type 0} {G : Ghosts O} → BoardId → Bool → ℕ → List (Seat O F G) → List (Seat O F G) → Type 0
AreDriven {O} {F} {G} name always limit olds news = (k : ℕ) (d : Seat O F G) → k < length olds
    → IsDriven name always limit (slice_index_or olds k d) (slice_index_or news k d)

-- a seat before and after a drive of a machine that is to run to its end, in which a seat that is refused memory asks for a stop
pub record IsRunOn {O F : Type 0} {G : Ghosts O} (name : BoardId) (limit : ℕ) (old new : Seat O F G) : Type 0 where
  pub of : IsSeatOf name new
  pub same : hart new ≡ hart old
  pub some : number old ≤ number new
  pub few : number new ≤ number old + limit
  pub ended : HasEndedSo true limit (number old) new new.ended
  pub asked : refused_by new.ended ≡ 1 → has_asked new.glance ≡ true

-- each of the seats
abbrev pub AreRunOn : {O F : Type 0} {G : Ghosts O} → BoardId → ℕ → List (Seat O F G) → List (Seat O F G) → Type 0
AreRunOn {O} {F} {G} name limit olds news = (k : ℕ) (d : Seat O F G) → k < length olds
    → IsRunOn name limit (slice_index_or olds k d) (slice_index_or news k d)

-- a seat before and after a drive that was not made: it has asked for a stop, and no thread has run it
pub record IsStopped {O F : Type 0} {G : Ghosts O} (name : BoardId) (old new : Seat O F G) : Type 0 where
  pub of : IsSeatOf name new
  pub same : hart new ≡ hart old
  pub number : number new ≡ number old
  pub tally : tally new ≡ tally old
  pub asked : has_asked new.glance ≡ true
  pub ended : new.ended ≡ old.ended

-- each of the seats
abbrev pub AreStopped : {O F : Type 0} {G : Ghosts O} → BoardId → List (Seat O F G) → List (Seat O F G) → Type 0
AreStopped {O} {F} {G} name olds news = (k : ℕ) (d : Seat O F G) → k < length olds → IsStopped name (slice_index_or olds k d) (slice_index_or news k d)
