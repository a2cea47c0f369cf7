-- What is known of turns that are passed at once, and of the last stop up to a place. This project's own.
use Rattle.std.specs.Prelude.{◌≡◌, ℕ, ◌+◌, ◌<◌, ◌≤◌, List, true, false, Option, Some, None}
use Rattle.multi_hart.specs.Run.{State}
use Rattle.turn_log.specs.TurnLog.{LogState}
use Rattle.debugger.specs.declared.passing.Passed.{Passed}
use Rattle.debugger.specs.Places.{SessionState, state_at}
use Rattle.debugger.specs.Stops.{stops}

-- a session of this log and these marks, whose machine is at the place
pub record Fits (session : SessionState) (log : LogState) (breaks watches : List ℕ) (machine : State) (place : ℕ) : Type 0 where
  pub same_log : log ≡ session.log
  pub same_breaks : breaks ≡ session.breaks
  pub same_watches : watches ≡ session.watches
  pub state : machine ≡ state_at session place

-- these turns go on from the place
pub record IsPassed (session : SessionState) (place : ℕ) (passed : Passed) : Type 0 where
  pub some : 1 ≤ passed.turns
  pub between : (k : ℕ) → place < k → k < place + passed.turns → stops session k ≡ passed.between
  pub behind : stops session (place + passed.turns) ≡ passed.behind

-- the greatest stop after one place up to another, if there is one
abbrev pub Latest : SessionState → ℕ → ℕ → Option ℕ → Type 0
Latest session from place None = (k : ℕ) → from < k → k ≤ place → stops session k ≡ false
Latest session from place (Some stop) =
    (stop ≤ place) × (stops session stop ≡ true) × ((k : ℕ) → stop < k → k ≤ place → stops session k ≡ false)

-- the least stop after one place up to another, if there is one
abbrev pub First : SessionState → ℕ → ℕ → Option ℕ → Type 0
First session from place None = (k : ℕ) → from < k → k ≤ place → stops session k ≡ false
First session from place (Some stop) =
    (from < stop) × (stop ≤ place) × (stops session stop ≡ true) × ((k : ℕ) → from < k → k < stop → stops session k ≡ false)
