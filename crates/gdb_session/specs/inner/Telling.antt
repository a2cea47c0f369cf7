-- What is told where a search forwards has come to a place that a mark stops at. This project's own.
use Rattle.std.specs.Prelude.{ℕ, ◌-◌, Option, Some, None}
use Rattle.debugger.specs.Places.{SessionState}
use Rattle.gdb_session.specs.declared.stops.StopReason.TheVariants.{Watch}
use Rattle.gdb_session.specs.Going.{Arrival, arrival, next_hart, on_break}
use Rattle.gdb_session.specs.Stopping.{changed_before}

abbrev pub before_change : SessionState → Option ℕ → Arrival
before_change session None = on_break session session.place
before_change session (Some address) = arrival (session.place - 1) (Watch address) (next_hart session (session.place - 1))

-- a watch is told before the last turn, and else a break
abbrev pub told_ahead : SessionState → Arrival
told_ahead session = before_change session (changed_before session session.place)
