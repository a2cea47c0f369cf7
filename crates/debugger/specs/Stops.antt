-- Where a mark stops a session, and the next and the previous stop. This project's own.
use Rattle.std.specs.Prelude.{◌≡◌, ℕ, zero, suc, ◌<◌, ◌≤◌, ◌==◌, ◌||◌, Bool, true, false, not, length, slice_get, Option, Some, None}
use Rattle.std.specs.List.{list_any}
use Rattle.std.specs.Option.{option_eq}
use Rattle.multi_hart.specs.Run.{State, hart_at, word_in}
use Rattle.debugger.specs.Places.{SessionState, state_at}

-- the hart of the next turn, if there is one, is on the address: its pc alone decides, running or not
abbrev pub stands_on : State → Option ℕ → ℕ → Bool
stands_on state None address = false
stands_on state (Some hart) address = address == (hart_at state hart).pc

-- a break stops at a place from which the log goes on with a hart that is on it
abbrev pub break_stops : SessionState → ℕ → ℕ → Bool
break_stops session place address = stands_on (state_at session place) (slice_get session.log.turns place) address

-- the word at the address differs
abbrev pub differs : State → State → ℕ → Bool
differs before after address = not (option_eq ◌==◌ (word_in after address) (word_in before address))

-- a watch stops at a place whose last turn changed its word
abbrev pub watch_stops : SessionState → ℕ → ℕ → Bool
watch_stops session zero address = false
watch_stops session (suc before) address = differs (state_at session before) (state_at session (suc before)) address

-- some mark stops at the place
abbrev pub stops : SessionState → ℕ → Bool
stops session place =
    list_any (break_stops session place) session.breaks || list_any (watch_stops session place) session.watches

-- the least stop after a session's place, and that there is none
pub record IsNextStop (session : SessionState) (stop : ℕ) : Type 0 where
  pub after : session.place < stop
  pub within : stop ≤ length session.log.turns
  pub stops_there : stops session stop ≡ true
  pub least : (place : ℕ) → session.place < place → place < stop → stops session place ≡ false

pub record NoNextStop (session : SessionState) : Type 0 where
  pub none : (place : ℕ) → session.place < place → place ≤ length session.log.turns → stops session place ≡ false

-- the greatest stop before a session's place, and that there is none
pub record IsPreviousStop (session : SessionState) (stop : ℕ) : Type 0 where
  pub before : stop < session.place
  pub stops_there : stops session stop ≡ true
  pub greatest : (place : ℕ) → stop < place → place < session.place → stops session place ≡ false

pub record NoPreviousStop (session : SessionState) : Type 0 where
  pub none : (place : ℕ) → place < session.place → stops session place ≡ false
