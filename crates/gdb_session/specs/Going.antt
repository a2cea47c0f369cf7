-- How a run goes on in its log: where it stops then, why, and at which hart. This project's own.
use Rattle.std.specs.Prelude.{◌≡◌, ℕ, zero, suc, ◌+◌, ◌-◌, ◌<◌, ◌≤◌, ◌==◌, Bool, false, if◌then◌else◌, List, length, slice_get, Option, Some, None, unwrap_or}
use Rattle.std.specs.Option.{option_eq}
use Rattle.gdb_packets.specs.declared.requests.Action.{Action}
use Rattle.gdb_packets.specs.declared.requests.Action.TheVariants as actions
use Rattle.debugger.specs.Places.{SessionState, moved}
use Rattle.gdb_session.specs.declared.stops.Stop.{Stop}
use Rattle.gdb_session.specs.declared.stops.StopReason.{StopReason}
use Rattle.gdb_session.specs.declared.stops.StopReason.TheVariants.{Stepped, Break, Watch, LogEnd, LogStart}
use Rattle.gdb_session.specs.Sessions.{GdbState, hart_of}
use Rattle.gdb_session.specs.Stopping.{changed_before, first_from, is_on_break, last_below, stops_ahead, stops_behind}

pub record Arrival : Type 0 where
  pub place : ℕ
  pub stop : Stop

abbrev pub arrival : ℕ → StopReason → ℕ → Arrival
arrival place reason hart = record { place = place; stop = record { reason = reason; hart = hart } }

-- ---- steps of a hart

-- the turn at a place is the hart's
abbrev pub is_turn_of : List ℕ → ℕ → ℕ → Bool
is_turn_of turns hart place = option_eq ◌==◌ (slice_get turns place) (Some hart)

-- the hart's first turn from a place on, and its last one before a place
unfoldable pub next_turn : List ℕ → ℕ → ℕ → Option ℕ
next_turn turns hart place = first_from (is_turn_of turns hart) place (length turns - place)

unfoldable pub last_turn : List ℕ → ℕ → ℕ → Option ℕ
last_turn turns hart place = last_below (is_turn_of turns hart) place

-- no turn from one place up to another is the hart's
abbrev pub NoneBetween : List ℕ → ℕ → ℕ → ℕ → Type 0
NoneBetween turns hart from to = (k : ℕ) → from ≤ k → k < to → is_turn_of turns hart k ≡ false

abbrev pub behind_turn : List ℕ → ℕ → Option ℕ → Arrival
behind_turn turns hart None = arrival (length turns) LogEnd hart
behind_turn turns hart (Some place) = arrival (place + 1) Stepped hart

abbrev pub before_turn : ℕ → Option ℕ → Arrival
before_turn hart None = arrival 0 LogStart hart
before_turn hart (Some place) = arrival place Stepped hart

-- A step goes behind the hart's next turn, whatever turns of others lie before it, or to the end of the log.
unfoldable pub step : SessionState → ℕ → Arrival
step session hart = behind_turn session.log.turns hart (next_turn session.log.turns hart session.place)

-- A step back goes before its last one, or to the start.
unfoldable pub step_back : SessionState → ℕ → Arrival
step_back session hart = before_turn hart (last_turn session.log.turns hart session.place)

-- ---- to the next and to the last stop

-- whose turn is next, and whose was last
abbrev pub next_hart : SessionState → ℕ → ℕ
next_hart session place = unwrap_or (slice_get session.log.turns place) 0

abbrev pub last_hart : SessionState → ℕ → ℕ
last_hart session zero = 0
last_hart session (suc place) = next_hart session place

abbrev pub on_break : SessionState → ℕ → Arrival
on_break session place = arrival place Break (next_hart session place)

-- a break is told before a watch
abbrev pub ahead_at : SessionState → ℕ → Arrival
ahead_at session place =
    if is_on_break session place then on_break session place
    else arrival place (Watch (unwrap_or (changed_before session (place + 1)) 0)) (next_hart session place)

abbrev pub behind_at : SessionState → ℕ → Arrival
behind_at session place =
    if is_on_break session place then on_break session place
    else arrival place (Watch (unwrap_or (changed_before session place) 0)) (last_hart session place)

-- where nothing stops gdb is told of the hart that it looks at
abbrev pub ahead : SessionState → ℕ → Option ℕ → Arrival
ahead session focus None = arrival (length session.log.turns) LogEnd focus
ahead session focus (Some place) = ahead_at session place

abbrev pub behind : SessionState → ℕ → Option ℕ → Arrival
behind session focus None = arrival 0 LogStart focus
behind session focus (Some place) = behind_at session place

-- The search begins at the session's own place: another hart may be on a break there.
unfoldable pub continue : SessionState → ℕ → Arrival
continue session focus =
    ahead session focus (first_from (stops_ahead session) session.place (length session.log.turns - session.place))

-- Backwards the own place is looked at for watches alone.
abbrev pub unless_changed : SessionState → Option ℕ → Arrival → Arrival
unless_changed session None other = other
unless_changed session (Some address) other = arrival session.place (Watch address) (last_hart session session.place)

unfoldable pub continue_back : SessionState → ℕ → Arrival
continue_back session focus =
    unless_changed session (changed_before session session.place)
    (behind session focus (last_below (stops_behind session) session.place))

-- ---- what is done

abbrev pub if_known : Option ℕ → (ℕ → Arrival) → Option Arrival
if_known None goes = None
if_known (Some hart) goes = Some (goes hart)

-- none where there is no such hart
abbrev pub gone : GdbState → Action → Option Arrival
gone state (actions.Step thread) = if_known (hart_of state thread) (step state.session)
gone state (actions.Continue thread) = if_known (hart_of state thread) (λ hart. continue state.session state.focus)
gone state actions.StepBack = Some (step_back state.session (unwrap_or state.stepping state.focus))
gone state actions.ContinueBack = Some (continue_back state.session state.focus)

-- gdb looks at the hart that it is told of
abbrev pub arrived : GdbState → Arrival → GdbState
arrived state to = record state { session = moved state.session to.place; focus = to.stop.hart }

abbrev pub arrived_if : GdbState → Option Arrival → GdbState
arrived_if state None = state
arrived_if state (Some to) = arrived state to

abbrev pub stop_if : Option Arrival → Option Stop
stop_if None = None
stop_if (Some to) = Some to.stop
