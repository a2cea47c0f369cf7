-- What a session counts of the turns that it makes: those in which the hart whose turn it is runs. This project's own.
use Rattle.std.specs.Prelude.{◌≡◌, ◌≢◌, ℕ, zero, suc, ◌+◌, ◌-◌, ◌%◌, ◌^◌, ◌≤◌, min, slice_get, Option, Some, None}
use Rattle.hart_core.specs.declared.harts.Status.{Status}
use Rattle.hart_core.specs.declared.harts.Status.TheVariants.{Running, Finished, Trapped}
use Rattle.multi_hart.specs.Run.{State, hart_at}
use Rattle.debugger.specs.Places.{SessionState, CountedSession, state_at}

abbrev pub one_if_running : Status → ℕ
one_if_running Running = 1
one_if_running Finished = 0
one_if_running (Trapped trap) = 0

-- 1 where the hart whose turn is next runs in this state, else 0
abbrev pub counts_next : State → Option ℕ → ℕ
counts_next state None = 0
counts_next state (Some hart) = one_if_running (hart_at state hart).status

-- of this many turns of the log from a place on, those in which the hart runs
abbrev pub steps_from : SessionState → ℕ → ℕ → ℕ
steps_from session place zero = 0
steps_from session place (suc n) =
    steps_from session place n + counts_next (state_at session (place + n)) (slice_get session.log.turns (place + n))

-- a count of 64 bits stops at 2^64 - 1
abbrev pub counted : ℕ → ℕ → ℕ
counted steps more = min (steps + more) (2 ^ 64 - 1)

-- From one session to another the count grew by the turns of running harts from some place up to this one. Going forwards that place
-- isn't before the session's own. Where it is another than the session's own it is a multiple of 4,096, as the start is: there alone
-- states are kept. A count that fits 64 bits never falls.
pub record Walked (before after : CountedSession) (place : ℕ) : Type 0 where
  pub from : ℕ
  pub within : from ≤ place
  pub onwards : before.state.place ≤ place → before.state.place ≤ from
  pub begins : from % 4096 ≢ 0 → from ≡ before.state.place
  pub grows : before.steps ≤ after.steps
  pub steps : after.steps ≡ counted before.steps (steps_from before.state from (place - from))
